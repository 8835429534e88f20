-- A shelf's free list: its members are free items of that shelf, no two alike; so the counts say whether it lacks none. Assumes nothing.
use Rattle.std.specs.Prelude.{◌≡◌, ◌∷◌, ◌≤◌, ◌<◌}
use Rattle.numbers.specs.Library.{refl, sym, ◌∙◌, Bool, true, false, not, List, [], map, ℕ, arith, eqb, length, length-append}
use Rattle.numbers.specs.Prelude.{no_row, pick}
use Rattle.rows.specs.Prelude.{get, items, shelves}
use Rattle.rows.specs.declared.header.Header.{Header}
use Rattle.chains.specs.Prelude.{◌∈◌, Distinct, Each, Walk}
use Rattle.chains.proofs.Prelude.{distinct_within, distinct_cover, each_at, each_from, gather_in, ends_distinct, ends_below, walk_each, walk_map}
use Rattle.rules.specs.Prelude.{free_rows, free_next, shelves_met, items_met, free_met, all_items_met, FreeListRight, item_in_of, Rule1, Rule3, Rule5, sum_over}
use Rattle.laws.proofs.Stored.Once.{few_items, items_distinct, items_named, items_wide}
use Rattle.laws.proofs.Stored.FreeList.{free_in, in_free, free_distinct}
use Rattle.audit_counts.specs.Counts.{free_in_of, free_of, FreeItem, FreeList, FreeListOf, all_free_met}
use Rattle.audit_counts.proofs.Sums.{length-gather, sum-gather, sum_parts, sum_same}

-- ---- the free ones of some rows

abbrev frees : List ℕ → List ℕ → List ℕ
frees I rows = free_rows (map (item_in_of I) rows)

one_length : (b : Bool) (r : ℕ) → length (pick (not b) [] (r ∷ [])) ≡ pick b 1 0
one_length true r = refl
one_length false r = refl

frees_length : (I rows : List ℕ) → length (frees I rows) ≡ sum_over (free_of I) rows
unfolding item_in_of free_in_of
frees_length I [] = refl
frees_length I (r ∷ rs) =
    let free : Bool = eqb (get items I r).allocated 0 in
    omega (arith, frees_length I rs, one_length free r, length-append (pick (not free) [] (r ∷ [])) (frees I rs))

-- ---- rule 5

module _ {h : Header} {S I : List ℕ} (one : Rule1 h S I) (three : Rule3 h S I) where
  -- a free list's rows are distinct and used, name its shelf, are wide and free
  module _ (on : ℕ) (f : FreeListOf h S I on) where
    list_distinct : Distinct (free_met h S I on)
    unfolding FreeListOf FreeList free_met
    list_distinct = ends_distinct (free_next I) h.used_items (few_items one) (free_met h S I on) f.ends

    list_below : (r : ℕ) → r ∈ free_met h S I on → r < h.used_items
    unfolding FreeListOf FreeList free_met
    list_below = ends_below (free_next I) h.used_items (few_items one) (free_met h S I on) f.ends

    list_named : (r : ℕ) → r ∈ free_met h S I on → (get items I r).shelf.0 ≡ on
    unfolding FreeListOf FreeList free_met
    list_named = walk_each f (λ r. (get items I r).shelf.0 ≡ on) (λ p r o. o.named)

    list_wide : (r : ℕ) → r ∈ free_met h S I on → 1 ≤ (get items I r).width
    unfolding FreeListOf FreeList free_met
    list_wide = walk_each f (λ r. 1 ≤ (get items I r).width) (λ p r o. o.some_width)

    list_free : (r : ℕ) → r ∈ free_met h S I on → (get items I r).allocated ≡ 0
    unfolding FreeListOf FreeList free_met
    list_free = walk_each f (λ r. (get items I r).allocated ≡ 0) (λ p r o. o.is_free)

    linked-list :
        Walk (free_next I) (λ prev r. (get items I r).prev_unallocated.0 ≡ prev) (λ prev r. r) (λ last. Unit {0}) h.used_items (get shelves S on).first_unallocated.0 no_row
    unfolding FreeListOf FreeList
    linked-list = walk_map f (λ prev r. (get items I r).prev_unallocated.0 ≡ prev) (λ p r m o. o.back)

  -- with every used row that has a width on an item chain, a free list's rows are items of its shelf
  module _ (serves : (r : ℕ) → r < h.used_items → 1 ≤ (get items I r).width → r ∈ all_items_met h S I) (lists : Each (FreeListOf h S I) (shelves_met h S)) where
    list_at : (on : ℕ) → on ∈ shelves_met h S → FreeListOf h S I on
    list_at = each_at (FreeListOf h S I) (shelves_met h S) lists

    list_items : (on : ℕ) → on ∈ shelves_met h S → (r : ℕ) → r ∈ free_met h S I on → r ∈ items_met h S I on
    unfolding all_items_met
    list_items on m r k =
        let f = list_at on m in
        let g = gather_in (items_met h S I) (shelves_met h S) r (serves r (list_below on f r k) (list_wide on f r k)) in
        let same : g.0 ≡ on = sym (items_named one three g.0 g.1 r g.2) ∙ list_named on f r k in
        rw same at g.2

    list_frees : (on : ℕ) → on ∈ shelves_met h S → (r : ℕ) → r ∈ free_met h S I on → r ∈ frees I (items_met h S I on)
    list_frees on m r k = in_free I (items_met h S I on) r (list_items on m r k) (list_free on (list_at on m) r k)

    -- No list has more rows than its shelf has free items, and in all there are as many of both. So each list has as many as its shelf has
    -- free items, and as no row stands twice, it lacks none.
    pub lists_right : length (all_free_met h S I) ≡ sum_over (free_of I) (all_items_met h S I) → Rule5 h S I
    unfolding Rule5 all_free_met all_items_met
    lists_right e = each_from (shelves_met h S) right where
      most : (on : ℕ) → on ∈ shelves_met h S → length (free_met h S I on) ≤ sum_over (free_of I) (items_met h S I on)
      most on m =
          let q = distinct_within (free_met h S I on) (frees I (items_met h S I on)) (list_distinct on (list_at on m)) (list_frees on m) in
          omega (arith, q, frees_length I (items_met h S I on))

      same : (on : ℕ) → on ∈ shelves_met h S → length (free_met h S I on) ≡ sum_over (free_of I) (items_met h S I on)
      same =
          sum_parts (λ on. length (free_met h S I on)) (λ on. sum_over (free_of I) (items_met h S I on)) (shelves_met h S) most
          (sym (length-gather (free_met h S I) (shelves_met h S)) ∙ e ∙ sum-gather (free_of I) (items_met h S I) (shelves_met h S))

      none_missing : (on : ℕ) → on ∈ shelves_met h S → (r : ℕ) → r ∈ frees I (items_met h S I on) → r ∈ free_met h S I on
      none_missing on m =
          distinct_cover (free_met h S I on) (frees I (items_met h S I on)) (list_distinct on (list_at on m)) (list_frees on m)
          (omega (arith, same on m, frees_length I (items_met h S I on)))

      right : (on : ℕ) → on ∈ shelves_met h S → FreeListRight h S I on
      right on m = record {
        linked = linked-list on (list_at on m);
        once = list_distinct on (list_at on m);
        exactly = λ r. (
          λ k. (list_items on m r k, list_free on (list_at on m) r k),
          λ q. none_missing on m r (in_free I (items_met h S I on) r q.0 q.1),
        );
      }

  -- and back: a right list's rows are free items of its shelf, and as many
  module _ (five : Rule5 h S I) where
    right_at : (on : ℕ) → on ∈ shelves_met h S → FreeListRight h S I on
    unfolding Rule5
    right_at = each_at (FreeListRight h S I) (shelves_met h S) five

    right_list : (on : ℕ) → on ∈ shelves_met h S → FreeListOf h S I on
    unfolding FreeListOf FreeList free_met
    right_list on m =
        walk_map (right_at on m).linked (λ prev r. FreeItem on prev (get items I r))
        (λ p r k o.
        let q = ((right_at on m).exactly r).0 k in
        record { back = o; named = items_named one three on m r q.0; some_width = items_wide one three on m r q.0; is_free = q.1 })

    pub right_lists : Each (FreeListOf h S I) (shelves_met h S)
    right_lists = each_from (shelves_met h S) right_list

    right_length : (on : ℕ) → on ∈ shelves_met h S → length (free_met h S I on) ≡ sum_over (free_of I) (items_met h S I on)
    right_length on m =
        let there : (r : ℕ) → r ∈ free_met h S I on → r ∈ frees I (items_met h S I on) =
        λ r k. in_free I (items_met h S I on) r (((right_at on m).exactly r).0 k).0 (((right_at on m).exactly r).0 k).1 in
        let back : (r : ℕ) → r ∈ frees I (items_met h S I on) → r ∈ free_met h S I on =
        λ r k. ((right_at on m).exactly r).1 (free_in I (items_met h S I on) r k) in
        let lo = distinct_within (free_met h S I on) (frees I (items_met h S I on)) (right_at on m).once there in
        let hi = distinct_within (frees I (items_met h S I on)) (free_met h S I on) (free_distinct I (items_met h S I on) (items_distinct one three on m)) back in
        omega (arith, lo, hi, frees_length I (items_met h S I on))

    pub right_total : length (all_free_met h S I) ≡ sum_over (free_of I) (all_items_met h S I)
    unfolding all_free_met all_items_met
    right_total =
        length-gather (free_met h S I) (shelves_met h S)
        ∙ sum_same (λ on. length (free_met h S I on)) (λ on. sum_over (free_of I) (items_met h S I on)) (shelves_met h S) right_length
        ∙ sym (sum-gather (free_of I) (items_met h S I) (shelves_met h S))
