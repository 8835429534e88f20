-- Freed rows that are zero are apart from serving rows, which are not; so the counts say whether they hold exactly the rows that serve nowhere.
-- Assumes nothing.
use Rattle.std.specs.Prelude.{◌≡◌, ◌∷◌, ◌+◌, ◌≤◌, ◌<◌}
use Rattle.numbers.specs.Library.{List, [], ℕ, arith, length}
use Rattle.numbers.specs.Prelude.{no_row}
use Rattle.rows.specs.Prelude.{get, items, shelves}
use Rattle.pool.specs.Pool.{FreedShelf, FreedItem}
use Rattle.pool.specs.PoolLaws.{freed_flat, freed_thin}
use Rattle.rows.specs.declared.header.Header.{Header}
use Rattle.chains.specs.Prelude.{◌∈◌, Distinct, Each, rows_from, Holds}
use Rattle.chains.proofs.Prelude.{dec_memᴰ, each_at, each_from, counts_cover, cover_counts, ends_distinct, ends_below, walk_each}
use Rattle.rules.specs.Prelude.{shelf_next, item_next, shelves_met, all_items_met, freed_shelves_met, freed_items_met, FreedRight, Rule1, Rule2, Rule3}
use Rattle.audit_counts.specs.Counts.{Freed, FreedShelves, FreedItems}
use Rattle.laws.proofs.Stored.Once.{few_shelves, few_items, shelves_distinct, shelves_below, shelves_deep, all_distinct, all_below, all_wide}

each_holds : (P : ℕ → Type 0) (rows : List ℕ) → Each P rows → Holds (λ (u : Unit {0}) r. P r) (λ u r. u) (λ u. Unit {0}) tt rows
each_holds P [] e = tt
each_holds P (r ∷ rs) e = (e.0, each_holds P rs e.1)

-- of either table, where no serving row has P
module _ {nx : ℕ → ℕ} {used head : ℕ} {serving : List ℕ} {P : ℕ → Type 0} (b : used ≤ no_row) (ds : Distinct serving) (bs : (r : ℕ) → r ∈ serving → r < used)
    (apart : (r : ℕ) → r ∈ serving → P r → ⊥) where
  freed_right : Freed nx used head P → length serving + length (rows_from nx used head) ≡ used → FreedRight nx used head serving × Each P (rows_from nx used head)
  freed_right w e =
      let each : (r : ℕ) → r ∈ rows_from nx used head → P r = walk_each w P (λ u r o. o) in
      let once : Distinct (rows_from nx used head) = ends_distinct nx used b (rows_from nx used head) w.ends in
      let below : (r : ℕ) → r ∈ rows_from nx used head → r < used = ends_below nx used b (rows_from nx used head) w.ends in (
        record {
          starts = w.starts;
          ends = w.ends;
          once = once;
          exactly = λ r. (
            λ m. (below r m, λ k. apart r k (each r m)),
            λ q. counts_cover serving (rows_from nx used head) used ds once (λ r m k. apart r m (each r k)) bs below e r q.0 q.1,
          );
        },
        each_from (rows_from nx used head) each,
      )

  right_freed : FreedRight nx used head serving → Each P (rows_from nx used head) → Freed nx used head P × (length serving + length (rows_from nx used head) ≡ used)
  right_freed f p = (
    record { starts = f.starts; ends = f.ends; holds = each_holds P (rows_from nx used head) p },
    cover_counts serving (rows_from nx used head) used ds f.once (λ r m k. ((f.exactly r).0 k).1 m) bs (λ r m. ((f.exactly r).0 m).0)
        (λ r u n. (f.exactly r).1 (u, n)),
  )

module _ {h : Header} {S I : List ℕ} (one : Rule1 h S I) (two : Rule2 h S I) (three : Rule3 h S I) where
  deep_apart : (r : ℕ) → r ∈ shelves_met h S → FreedShelf (get shelves S r) → ⊥
  deep_apart r m z = omega (arith, shelves_deep one two r m, freed_flat (get shelves S r) z)

  wide_apart : (r : ℕ) → r ∈ all_items_met h S I → FreedItem (get items I r) → ⊥
  wide_apart r m z = omega (arith, all_wide one three r m, freed_thin (get items I r) z)

  pub freed_shelves_right : FreedShelves h S → length (shelves_met h S) + length (freed_shelves_met h S) ≡ h.used_shelves
      → FreedRight (shelf_next S) h.used_shelves h.free_shelves.0 (shelves_met h S) × Each (λ r. FreedShelf (get shelves S r)) (freed_shelves_met h S)
  unfolding FreedShelves freed_shelves_met
  freed_shelves_right = freed_right (few_shelves one) (shelves_distinct one two) (shelves_below one two) deep_apart

  pub right_freed_shelves : FreedRight (shelf_next S) h.used_shelves h.free_shelves.0 (shelves_met h S)
      → Each (λ r. FreedShelf (get shelves S r)) (freed_shelves_met h S) → FreedShelves h S × (length (shelves_met h S) + length (freed_shelves_met h S) ≡ h.used_shelves)
  unfolding FreedShelves freed_shelves_met
  right_freed_shelves = right_freed (few_shelves one) (shelves_distinct one two) (shelves_below one two) deep_apart

  pub freed_items_right : FreedItems h I → length (all_items_met h S I) + length (freed_items_met h I) ≡ h.used_items
      → FreedRight (item_next I) h.used_items h.free_items.0 (all_items_met h S I) × Each (λ r. FreedItem (get items I r)) (freed_items_met h I)
  unfolding FreedItems freed_items_met
  freed_items_right = freed_right (few_items one) (all_distinct one two three) (all_below one three) wide_apart

  pub right_freed_items : FreedRight (item_next I) h.used_items h.free_items.0 (all_items_met h S I)
      → Each (λ r. FreedItem (get items I r)) (freed_items_met h I) → FreedItems h I × (length (all_items_met h S I) + length (freed_items_met h I) ≡ h.used_items)
  unfolding FreedItems freed_items_met
  right_freed_items = right_freed (few_items one) (all_distinct one two three) (all_below one three) wide_apart

  -- a used row with a width serves on the item chains
  pub wide_serves : FreedItems h I → length (all_items_met h S I) + length (freed_items_met h I) ≡ h.used_items
      → (r : ℕ) → r < h.used_items → 1 ≤ (get items I r).width → r ∈ all_items_met h S I
  unfolding freed_items_met
  wide_serves w e r u k = pick (dec_memᴰ r (all_items_met h S I)) where
    pick : Dec (r ∈ all_items_met h S I) → r ∈ all_items_met h S I
    pick (yes m) = m
    pick (no n) =
        let f = freed_items_right w e in
        absurd (omega (arith, freed_thin (get items I r) (each_at (λ r. FreedItem (get items I r)) (freed_items_met h I) f.1 r ((f.0.exactly r).1 (u, n)))))
