-- One turn over the shelves, for what is asked of each of them by itself: their items, their free lists. Assumes nothing.
use Rattle.std.specs.Prelude.{◌≡◌, ◌≢◌, ◌∷◌, ◌+◌, ◌-◌, ◌*◌, ◌≤◌, Some}
use Rattle.numbers.specs.Library.{refl, sym, ap, ◌∙◌, List, [], ℕ, add-mul, mul-le-mul, arith}
use Rattle.numbers.specs.Library.{eqb, length}
use native.Mathlib.Nat.{zero-mul, sub-zero}
use Rattle.numbers.specs.Prelude.{no_row, pick, pick_ap}
use Rattle.rows.specs.Prelude.{get, items, shelves}
use Rattle.rows.specs.declared.{header.Header.Header, shelf.ShelfRow.ShelfRow}
use Rattle.chains.specs.Prelude.{Each}
use Rattle.rules.specs.Prelude.{shelf_next, shelves_met, items_met, free_met, all_items_met, ItemsRight, Rule3, sum_over, area_met}
use Rattle.audit_counts.specs.declared.{Tally.Tally, Totals.Totals}
use Rattle.audit_counts.specs.Counts.{free_of, live_of, live_in, stray_of, rows_of, RightOf, Tallied, AllCounts, AllTallied, Counts, FreeList, FreeListCounted}
use Rattle.audit_counts.specs.Counts.{FreeListOf, all_free_met}
use Rattle.chains.proofs.Prelude.{Eaching, each_begins, each_wrong, each_onward, each_ended, each_out}
use Rattle.audit_counts.proofs.Sums.{Summing, sums, sum-ended, sum_out, length-gather, sum-gather, length-sum, summed_as}

-- ---- the items of all the shelves

live_area_lem : (I : List ℕ) (k : ℕ) (rows : List ℕ)
    → sum_over (λ r. pick (eqb (get items I r).allocated 0) 0 ((get items I r).width * k)) rows ≡ sum_over (live_of I) rows * k
unfolding live_in
live_area_lem I k [] = sym (zero-mul k)
live_area_lem I k (r ∷ rs) =
    let one : pick (eqb (get items I r).allocated 0) 0 ((get items I r).width * k) ≡ pick (eqb (get items I r).allocated 0) 0 (get items I r).width * k =
    sym (pick_ap (λ (x : ℕ). x * k) (eqb (get items I r).allocated 0) 0 (get items I r).width ∙ rw (zero-mul k)) in
    rw (one, live_area_lem I k rs) (sym (add-mul _ _ k))

pub record AtTotals (h : Header) (S I : List ℕ) (cur fuel : ℕ) (t : Totals) : Type 0 where
  pub each : Eaching (ItemsRight h S I) (shelf_next S) (Rule3 h S I) cur fuel
  pub shelf_count : Summing (λ on. 1) (shelf_next S) (sum_over (λ on. 1) (shelves_met h S)) cur fuel t.shelves
  pub item_count : Summing (λ on. length (items_met h S I on)) (shelf_next S) (sum_over (λ on. length (items_met h S I on)) (shelves_met h S)) cur fuel t.items
  pub frees : Summing (λ on. sum_over (free_of I) (items_met h S I on)) (shelf_next S) (sum_over (λ on. sum_over (free_of I) (items_met h S I on)) (shelves_met h S)) cur fuel t.free
  pub strays : Summing (λ on. sum_over (stray_of I) (items_met h S I on)) (shelf_next S) (sum_over (λ on. sum_over (stray_of I) (items_met h S I on)) (shelves_met h S)) cur fuel t.stray
  pub areas : Summing (area_met h S I) (shelf_next S) (sum_over (area_met h S I) (shelves_met h S)) cur fuel t.area
  pub used_most : h.used_shelves ≤ no_row
  pub shelves_most : t.shelves + fuel ≤ h.used_shelves
  pub items_most : t.items + fuel * 65535 ≤ h.used_shelves * 65535
  pub free_most : t.free + fuel * 65535 ≤ h.used_shelves * 65535
  pub stray_most : t.stray + fuel * 8589672450 ≤ h.used_shelves * 8589672450
  pub area_most : t.area + fuel * 8589672450 ≤ h.used_shelves * 8589672450

pub totals_begin : (h : Header) (S I : List ℕ) → h.used_shelves ≤ no_row → AtTotals h S I 0 (h.used_shelves - 0) (record { shelves = 0; items = 0; free = 0; stray = 0; area = 0 })
unfolding Rule3 shelves_met
totals_begin h S I b = rw (sub-zero h.used_shelves) (record {
  each = each_begins;
  shelf_count = sums;
  item_count = sums;
  frees = sums;
  strays = sums;
  areas = sums;
  used_most = b;
  shelves_most = omega arith;
  items_most = omega arith;
  free_most = omega arith;
  stray_most = omega arith;
  area_most = omega arith;
})

pub area_small : {h : Header} {I : List ℕ} {s : ShelfRow} {of : Tally} → Tallied h I s of → s.height ≤ 65535 → of.live * s.height ≤ 8589672450
area_small tallied height-fits = mul-le-mul tallied.live_most height-fits

module _ {h : Header} {S I : List ℕ} {cur fuel : ℕ} {t : Totals} (so_far : AtTotals h S I cur fuel t) (some-row : cur ≢ no_row) (steps-left : 1 ≤ fuel)
    (s : ShelfRow) (row_is : s ≡ get shelves S cur) where
  pub wrong_items : (RightOf h I cur s → ⊥) → Rule3 h S I → ⊥
  unfolding ItemsRight RightOf
  wrong_items wrong = each_wrong so_far.each some-row steps-left (λ o. wrong (rw row_is o))

  -- what the shelf adds to each sum is what was tallied of it, read from the row that it is in
  pub past_items : (of : Tally) → RightOf h I cur s × Tallied h I s of → s.height ≤ 65535 → {left : ℕ} → left + 1 ≡ fuel
      → AtTotals h S I s.next.0 left (record {
        shelves = t.shelves + 1;
        items = t.items + of.count;
        free = t.free + of.free;
        stray = t.stray + of.stray;
        area = t.area + of.live * s.height;
      })
  unfolding ItemsRight RightOf items_met rows_of area_met
  past_items of (right, tallied) height-fits {left} one-less =
      let counts = tallied.counts in
      let one : fuel - 1 ≡ left = omega arith in
      let next_is : s.next.0 ≡ shelf_next S cur = ap (λ (v : ShelfRow). v.next.0) row_is in
      let rows_are : rows_of h I s ≡ items_met h S I cur = ap (λ (v : ShelfRow). rows_of h I v) row_is in
      let deep : s.height ≡ (get shelves S cur).height = ap (λ (v : ShelfRow). v.height) row_is in
      let live : of.live ≡ sum_over (live_of I) (items_met h S I cur) = counts.live ∙ ap (sum_over (live_of I)) rows_are in
      let area : of.live * s.height ≡ area_met h S I cur = rw (live, deep) (sym (live_area_lem I (get shelves S cur).height (items_met h S I cur))) in
      rw (← one) (record {
        each = rw next_is (each_onward so_far.each some-row steps-left (rw row_is at right));
        shelf_count = summed_as so_far.shelf_count some-row steps-left refl next_is;
        item_count = summed_as so_far.item_count some-row steps-left (counts.count ∙ ap length rows_are) next_is;
        frees = summed_as so_far.frees some-row steps-left (counts.free ∙ ap (sum_over (free_of I)) rows_are) next_is;
        strays = summed_as so_far.strays some-row steps-left (counts.stray ∙ ap (sum_over (stray_of I)) rows_are) next_is;
        areas = summed_as so_far.areas some-row steps-left area next_is;
        used_most = so_far.used_most;
        shelves_most = omega (arith, so_far.shelves_most);
        items_most = omega (arith, so_far.items_most, tallied.count_most);
        free_most = omega (arith, so_far.free_most, tallied.free_most);
        stray_most = omega (arith, so_far.stray_most, tallied.stray_most);
        area_most = omega (arith, so_far.area_most, area_small tallied height-fits);
      })

-- the totals at the end of the walk, by either way out
totals_are : (h : Header) (S I : List ℕ) (t : Totals) → t.shelves ≡ sum_over (λ on. 1) (shelves_met h S)
    → t.items ≡ sum_over (λ on. length (items_met h S I on)) (shelves_met h S) → t.free ≡ sum_over (λ on. sum_over (free_of I) (items_met h S I on)) (shelves_met h S)
    → t.stray ≡ sum_over (λ on. sum_over (stray_of I) (items_met h S I on)) (shelves_met h S) → t.area ≡ sum_over (area_met h S I) (shelves_met h S) → AllCounts h S I t
unfolding all_items_met
totals_are h S I t shelves_are items_are free_are stray-are area_is = record {
  shelves = shelves_are ∙ sym (length-sum (shelves_met h S));
  items = items_are ∙ sym (length-gather (items_met h S I) (shelves_met h S));
  free = free_are ∙ sym (sum-gather (free_of I) (items_met h S I) (shelves_met h S));
  stray = stray-are ∙ sym (sum-gather (stray_of I) (items_met h S I) (shelves_met h S));
  area = area_is;
}

module _ {h : Header} {S I : List ℕ} {cur fuel : ℕ} {t : Totals} (so_far : AtTotals h S I cur fuel t) where
  pub totals_ended : cur ≡ no_row → AllTallied h S I (Some t)
  totals_ended e = (
    each_ended so_far.each e,
    totals_are h S I t (sum-ended so_far.shelf_count e) (sum-ended so_far.item_count e) (sum-ended so_far.frees e) (sum-ended so_far.strays e) (sum-ended so_far.areas e),
  )

  pub totals_out : fuel ≡ 0 → AllTallied h S I (Some t)
  totals_out e = (
    each_out so_far.each e,
    totals_are h S I t (sum_out so_far.shelf_count e) (sum_out so_far.item_count e) (sum_out so_far.frees e) (sum_out so_far.strays e) (sum_out so_far.areas e),
  )

-- ---- the free lists of all the shelves

pub record AtLists (h : Header) (S I : List ℕ) (cur fuel count : ℕ) : Type 0 where
  pub each : Eaching (FreeListOf h S I) (shelf_next S) (Each (FreeListOf h S I) (shelves_met h S)) cur fuel
  pub counts : Summing (λ on. length (free_met h S I on)) (shelf_next S) (sum_over (λ on. length (free_met h S I on)) (shelves_met h S)) cur fuel count
  pub used_most : h.used_shelves ≤ no_row
  pub count_most : count + fuel * 65535 ≤ h.used_shelves * 65535

pub lists_begin : (h : Header) (S I : List ℕ) → h.used_shelves ≤ no_row → AtLists h S I 0 (h.used_shelves - 0) 0
unfolding shelves_met
lists_begin h S I b = rw (sub-zero h.used_shelves) (record { each = each_begins; counts = sums; used_most = b; count_most = omega arith })

module _ {h : Header} {S I : List ℕ} {cur fuel count : ℕ} (so_far : AtLists h S I cur fuel count) (some-row : cur ≢ no_row) (steps-left : 1 ≤ fuel)
    (s : ShelfRow) (row_is : s ≡ get shelves S cur) where
  pub wrong_list : (FreeList h I cur s.first_unallocated.0 → ⊥) → Each (FreeListOf h S I) (shelves_met h S) → ⊥
  unfolding FreeListOf
  wrong_list wrong = each_wrong so_far.each some-row steps-left (λ o. wrong (rw row_is o))

  pub past_list : (of : ℕ) → FreeListCounted h I cur s.first_unallocated.0 (Some of) → {left : ℕ} → left + 1 ≡ fuel → AtLists h S I s.next.0 left (count + of)
  unfolding FreeListOf free_met
  past_list of (right, (counted, most)) {left} one-less =
      let one : fuel - 1 ≡ left = omega arith in
      let next_is : s.next.0 ≡ shelf_next S cur = ap (λ (v : ShelfRow). v.next.0) row_is in
      rw (← one) (record {
        each = rw next_is (each_onward so_far.each some-row steps-left (rw row_is at right));
        counts = summed_as so_far.counts some-row steps-left (counted ∙ rw row_is) next_is;
        used_most = so_far.used_most;
        count_most = omega (arith, so_far.count_most, most);
      })

lists_are : (h : Header) (S I : List ℕ) (count : ℕ) → count ≡ sum_over (λ on. length (free_met h S I on)) (shelves_met h S) → count ≡ length (all_free_met h S I)
unfolding all_free_met
lists_are h S I count e = e ∙ sym (length-gather (free_met h S I) (shelves_met h S))

module _ {h : Header} {S I : List ℕ} {cur fuel count : ℕ} (so_far : AtLists h S I cur fuel count) where
  pub lists_ended : cur ≡ no_row → Counts (Each (FreeListOf h S I) (shelves_met h S)) (all_free_met h S I) (Some count)
  lists_ended e = (each_ended so_far.each e, lists_are h S I count (sum-ended so_far.counts e))

  pub lists_out : fuel ≡ 0 → Counts (Each (FreeListOf h S I) (shelves_met h S)) (all_free_met h S I) (Some count)
  lists_out e = (each_out so_far.each e, lists_are h S I count (sum_out so_far.counts e))
