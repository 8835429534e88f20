-- A free list along which no width is asked. Its rows have one all the same, where every used row serves or is freed: a freed row is zero, so both
-- its free links would name row 0, and no row stands both before and after another in a chain. Assumes nothing.
use Rattle.std.specs.Prelude.{◌≡◌, ◌≢◌, ◌∷◌, ◌+◌, ◌≤◌, ◌<◌}
use Rattle.numbers.specs.Library.{refl, sym, ap, ◌∙◌, ⊎_elim, List, [], List·Memᴰ·head, List·Memᴰ·tail, List·Memᴰ·not-nil, List·Memᴰ·cases-cons}
use Rattle.numbers.specs.Library.{ℕ, arith, length}
use Rattle.numbers.specs.Prelude.{no_row}
use Rattle.rows.specs.Prelude.{get, items, shelves, with_item_next, with_generation}
use Rattle.pool.specs.Pool.{FreedItem, freed_item_row}
use Rattle.rows.specs.declared.{header.Header.Header, item.ItemRow.ItemRow}
use Rattle.chains.specs.Prelude.{◌∈◌, Distinct, Each, first_of, Ends, Holds}
use Rattle.chains.proofs.Prelude.{dec_memᴰ, each_at, each_map, ends_distinct, ends_below, walk_map}
use Rattle.rules.specs.Prelude.{free_next, shelves_met, free_met, all_items_met, freed_items_met, Rule1, Rule2, Rule3}
use Rattle.laws.proofs.Stored.Once.{few_items, all_wide}
use Rattle.audit_counts.specs.Counts.{FreeItem, FreeItemAt, FreeList, FreeListOf, FreeListAt, FreedItems}
use Rattle.audit_counts.proofs.FreedRows.{freed_items_right}

-- ---- a chain that is linked both ways

first_in : (rows : List ℕ) → first_of rows ≢ no_row → first_of rows ∈ rows
first_in [] ne = absurd (ne refl)
first_in (r ∷ rs) ne = List·Memᴰ·head refl

-- no row of it names the same row before and after it, where the row before them all is none of them
not_between : (nx pv : ℕ → ℕ) (used prev : ℕ) (rows : List ℕ) → ¬ (prev ∈ rows) → Distinct rows → Ends nx used rows
    → Holds (λ p r. pv r ≡ p) (λ p r. r) (λ p. Unit {0}) prev rows → (r : ℕ) → r ∈ rows → pv r ≡ nx r → nx r ≢ no_row → ⊥
not_between nx pv used prev [] out d l b r m e ne = List·Memᴰ·not-nil m
not_between nx pv used prev (q ∷ rs) out d l b r m e ne = ⊎_elim here (λ k. not_between nx pv used q rs d.0 d.1 l.2 b.1 r k e ne) (List·Memᴰ·cases-cons m) where
  here : r ≡ q → ⊥
  here k =
      let after : nx r ≡ first_of rs = ap nx k ∙ l.1 in
      let before : prev ≡ first_of rs = sym b.0 ∙ ap pv (sym k) ∙ e ∙ after in
      out (List·Memᴰ·tail (rw before (first_in rs (λ z. ne (after ∙ z)))))

-- ---- the free links of a freed row

freed_links : (i : ItemRow) → FreedItem i → (i.prev_unallocated.0 ≡ 0) × (i.next_unallocated.0 ≡ 0)
unfolding freed_item_row with_item_next with_generation
freed_links i z = (ap (λ (v : ItemRow). v.prev_unallocated.0) z, ap (λ (v : ItemRow). v.next_unallocated.0) z)

-- ---- the free lists

-- a free list is one by place too
pub placed_list : (h : Header) (S I : List ℕ) (on : ℕ) → FreeListOf h S I on → FreeListAt h I on (get shelves S on).first_unallocated.0
unfolding FreeListAt FreeListOf FreeList
placed_list h S I on f = walk_map f (λ prev r. FreeItemAt on prev (get items I r)) (λ p r m o. record { back = o.back; named = o.named; is_free = o.is_free })

-- and the other way, where every used row serves or is freed
module _ {h : Header} {S I : List ℕ} (one : Rule1 h S I) (two : Rule2 h S I) (three : Rule3 h S I) (freed : FreedItems h I)
    (count : length (all_items_met h S I) + length (freed_items_met h I) ≡ h.used_items) where
  module _ (on : ℕ) (f : FreeListAt h I on (get shelves S on).first_unallocated.0) where
    list_below : (r : ℕ) → r ∈ free_met h S I on → r < h.used_items
    unfolding FreeListAt free_met
    list_below = ends_below (free_next I) h.used_items (few_items one) (free_met h S I on) f.ends

    not_freed : (r : ℕ) → r ∈ free_met h S I on → FreedItem (get items I r) → ⊥
    unfolding FreeListAt free_met
    not_freed r m z =
        let back : ℕ → ℕ = λ r. (get items I r).prev_unallocated.0 in
        let linked = walk_map f (λ prev r. back r ≡ prev) (λ p r k o. o.back) in
        let (before, after) = freed_links (get items I r) z in
        not_between (free_next I) back h.used_items no_row (free_met h S I on) (λ k. omega (arith, few_items one, list_below no_row k))
        (ends_distinct (free_next I) h.used_items (few_items one) (free_met h S I on) f.ends) f.ends linked.holds r m (before ∙ sym after) (λ e. omega arith)

    list_wide : (r : ℕ) → r ∈ free_met h S I on → 1 ≤ (get items I r).width
    unfolding freed_items_met
    list_wide r m = pick (dec_memᴰ r (all_items_met h S I)) where
      pick : Dec (r ∈ all_items_met h S I) → 1 ≤ (get items I r).width
      pick (yes k) = all_wide one three r k
      pick (no n) =
          let (rows, zeros) = freed_items_right one two three freed count in
          absurd (not_freed r m (each_at (λ r. FreedItem (get items I r)) (freed_items_met h I) zeros r ((rows.exactly r).1 (list_below r m, n))))

    pub wide_list : FreeListOf h S I on
    unfolding FreeListAt FreeListOf FreeList free_met
    wide_list =
        walk_map f (λ prev r. FreeItem on prev (get items I r))
        (λ p r m o. record { back = o.back; named = o.named; some_width = list_wide r m; is_free = o.is_free })

  pub wide_lists : Each (λ on. FreeListAt h I on (get shelves S on).first_unallocated.0) (shelves_met h S) → Each (FreeListOf h S I) (shelves_met h S)
  wide_lists = each_map _ _ wide_list (shelves_met h S)
