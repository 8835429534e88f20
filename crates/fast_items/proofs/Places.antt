-- What every place keeps, past one more item. Assumes nothing.
use Rattle.std.specs.Prelude.{◌≡◌, ◌≤◌, ◌<◌, ◌∷◌}
use Rattle.numbers.specs.Library.{ℕ, refl, sym, ap, ◌∙◌, List, length, arith}
use Rattle.numbers.specs.Prelude.{no_row}
use Rattle.rows.specs.Prelude.{get, items, item_capacity, rows_few}
use Rattle.rows.specs.declared.item.ItemRow.{ItemRow}
use Rattle.chains.specs.Prelude.{Ends}
use Rattle.chains.proofs.Prelude.{ends_length}
use Rattle.audit_counts.specs.Counts.{Small}
use Rattle.audit_counts.specs.Fast.{Fits}
use Rattle.fast_items.specs.declared.Passed.{Passed}
use Rattle.fast_items.specs.Walks.{Near, item_prev, passed, Kept}

-- below 65536 an item that is near is right there
pub near_fits : {prev x : ℕ} {i : ItemRow} → x ≤ 65535 → Near prev x i → Fits prev x i
near_fits b n = record { back = n.back; at_x = omega (arith, n.at_x); some_width = n.some_width }

pub few_rows : (I : List ℕ) {used : ℕ} → used ≤ item_capacity I → used ≤ no_row
few_rows I b = omega (arith, b, rows_few items I)

-- the rows that were passed on this shelf are no more than the used ones
pub few_behind : {I : List ℕ} {used : ℕ} {p : Passed} → used ≤ no_row → (k : Kept I used p) → length k.behind ≤ used
few_behind {I} {used} few k = ends_length (item_prev I) used few k.behind k.linked

module _ {I : List ℕ} {used : ℕ} {p : Passed} (few : used ≤ no_row) (k : Kept I used p) (in_use : p.cur < used) (i : ItemRow) (row_is : i ≡ get items I p.cur)
    (near : Near p.prev p.x i) where
  -- the next row is linked to them
  linked_too : Ends (item_prev I) used (p.cur ∷ k.behind)
  linked_too = (in_use, sym (ap (λ (v : ItemRow). v.prev.0) row_is) ∙ near.back ∙ k.prev_is, k.linked)

  pub kept_past : Small i → Kept I used (passed p i)
  kept_past small = record {
    start_is = refl;
    behind = p.cur ∷ k.behind;
    linked = linked_too;
    prev_is = refl;
    count_most = omega (arith, k.count_most);
    x_most = omega (arith, k.x_most, small.width);
  }

  -- the same, as it is told
  pub kept_told : Small i → (q : Passed) → q ≡ passed p i → Kept I used q
  kept_told small q e = rw e (kept_past small)

  -- what passing an item asks
  pub passable : (p.cur ≤ 65535) × (p.x ≤ 4294836225) × (p.count ≤ 131069)
  passable =
      let rows = ends_length (item_prev I) used few (p.cur ∷ k.behind) linked_too in
      (omega (arith, in_use, few), omega (arith, k.x_most, rows, few), omega (arith, k.count_most, rows, few))
