-- One turn of `items_right`: a run of live items, then a free one, then the live one that has to follow it. Assumes nothing.
use Rattle.std.specs.Prelude.{◌≡◌, ◌≢◌, ◌+◌, ◌-◌, ◌≤◌, ◌<◌}
use Rattle.numbers.specs.Library.{refl, ap, List, [], ℕ, arith, ltb, lt-ltb, le-ltb, dec_lt}
use Rattle.numbers.specs.Prelude.{no_row, pick}
use Rattle.rows.specs.Prelude.{get, items}
use Rattle.rows.specs.declared.{header.Header.Header, item.ItemRow.ItemRow, shelf.ShelfRow.ShelfRow}
use Rattle.audit_counts.specs.Counts.{Small}
use Rattle.audit_counts.specs.Fast.{LiveOf, FreeOf}
use Rattle.audit_counts.proofs.FastTurns.{OnShelf, on_begins, on_free, on_live, on_lives, on_more, on_tallied, on_even, on_gap}
use Rattle.fast_items.specs.declared.{Passed.Passed, Walked.Walked}
use Rattle.fast_items.specs.Walks.{mark_of, start_of, passed, Near, Kept, LivesPast, EndsSo, Walks}
use Rattle.fast_items.proofs.Places.{near_fits, few_behind, kept_told}

-- What the walk has found at p, where that is below 65536; where a row is there, no free item ends before it.
pub record Exact (h : Header) (I : List ℕ) (on : ℕ) (s : ShelfRow) (met all free gap : ℕ) (p : Passed) : Type 0 where
  pub edge : ℕ
  pub on_shelf : OnShelf h I on s met all edge free gap (mark_of p)
  pub apart : p.cur < h.used_items → edge ≢ p.x + 1

-- The walk at p.
pub record At (h : Header) (I : List ℕ) (on : ℕ) (s : ShelfRow) (met all free gap : ℕ) (p : Passed) : Type 0 where
  pub kept : Kept I h.used_items p
  pub free_most : free ≤ p.count
  pub gap_most : gap ≤ p.x
  pub exact : p.x ≤ 65535 → Exact h I on s met all free gap p

pub at_first : (h : Header) (I : List ℕ) (on : ℕ) (s : ShelfRow) (met all : ℕ) → h.used_items ≤ no_row → s.x ≤ 65535 → met ≤ 65535
    → At h I on s met all 0 0 (start_of s met all)
at_first h I on s met all few small bound = record {
  kept = record { start_is = refl; behind = []; linked = tt; prev_is = refl; count_most = omega arith; x_most = omega arith };
  free_most = omega arith;
  gap_most = omega arith;
  exact = λ b. record { edge = 0; on_shelf = on_begins h I on s met all few small; apart = λ v z. omega arith };
}

module _ {h : Header} {I : List ℕ} {on : ℕ} {s : ShelfRow} {met all free gap : ℕ} {p : Passed} (few : h.used_items ≤ no_row) (at : At h I on s met all free gap p) where
  pub free_fits : free ≤ 131070
  free_fits = omega (arith, at.free_most, at.kept.count_most, few_behind few at.kept, few)

  -- at the end
  pub at_ended : {w : Walked} → EndsSo h s p free gap w → Walks h I on s met all w
  at_ended {w} o =
      let there = (at.exact o.ended.narrow).on_shelf in
      record {
        tallied = rw o.counts (on_tallied there o.ended.stop o.ended.few o.ended.wide);
        more = rw o.counts (on_more there o.ended.stop o.ended.few o.ended.wide);
        few = rw o.counts o.ended.few;
        gap_most = rw o.counts (on_gap there o.ended.stop o.ended.few o.ended.wide);
        free_most = let fewer : free ≤ h.used_items = omega (arith, at.free_most, o.ended.few) in rw o.counts fewer;
        even = rw o.counts (on_even there o.ended.stop o.ended.few o.ended.wide);
      }

  -- past live items
  pub at_lives : p.cur < h.used_items → {r : Passed} → LivesPast I h.used_items on p r → At h I on s met all free gap r
  at_lives u l = record {
    kept = l.kept;
    free_most = omega (arith, at.free_most, l.more);
    gap_most = omega (arith, at.gap_most, l.further);
    exact = λ b.
        let was = at.exact (omega (arith, b, l.further)) in
        let ran = on_lives was.on_shelf (was.apart u) (l.lives b) in
        record { edge = was.edge; on_shelf = ran.0; apart = λ v. ran.1 };
  }

  module _ (in_use : p.cur < h.used_items) (i : ItemRow) (row_is : i ≡ get items I p.cur) (near : Near p.prev p.x i) (small : Small i) where
    -- past a free item, at q
    module _ (f : FreeOf on i) (q : Passed) (past_is : q ≡ passed p i) where
      x_is : q.x ≡ p.x + i.width
      x_is = ap (λ (r : Passed). r.x) past_is

      count_is : q.count ≡ p.count + 1
      count_is = ap (λ (r : Passed). r.count) past_is

      between : q.x ≤ 65535 → OnShelf h I on s met all (p.x + i.width + 1) (free + 1) (gap + i.width) (mark_of q)
      between b =
          let low : p.x ≤ 65535 = omega (arith, b, x_is) in
          let was = at.exact low in
          rw past_is (on_free was.on_shelf in_use i row_is (near_fits low near) small f (was.apart in_use))

      -- after which no row comes
      pub at_free : h.used_items ≤ q.cur → At h I on s met all (free + 1) (gap + i.width) q
      at_free out = record {
        kept = kept_told few at.kept in_use i row_is near small q past_is;
        free_most = omega (arith, at.free_most, count_is);
        gap_most = omega (arith, at.gap_most, x_is);
        exact = λ b. record { edge = _; on_shelf = between b; apart = λ v. absurd (omega arith) };
      }

      -- or past the live one after it, too
      pub at_both : q.cur < h.used_items → (j : ItemRow) → j ≡ get items I q.cur → Near q.prev q.x j → Small j → LiveOf on j
          → (r : Passed) → r ≡ passed q j → At h I on s met all (free + 1) (gap + i.width) r
      at_both u j e near' small' l r past-is' = rw past-is' (record {
        kept = kept_told few (kept_told few at.kept in_use i row_is near small q past_is) u j e near' small' (passed q j) refl;
        free_most = omega (arith, at.free_most, count_is);
        gap_most = omega (arith, at.gap_most, x_is);
        exact = λ b.
            let low : q.x ≤ 65535 = omega (arith, b) in
            record { edge = _; on_shelf = on_live (between low) u j e (near_fits low near') small' l; apart = λ v z. omega (arith, near'.some_width, x_is) };
      })

-- ---- the measure: no row is there, or more items were passed

abbrev pub left : ℕ → Passed → ℕ
left used p = pick (ltb p.cur used) (131071 - p.count) 0

count_fits : {I : List ℕ} {used : ℕ} {p : Passed} → used ≤ no_row → Kept I used p → p.count ≤ 131070
count_fits few k = omega (arith, k.count_most, few_behind few k, few)

pub left_out : {I : List ℕ} (used : ℕ) (p r : Passed) → used ≤ no_row → p.cur < used → Kept I used p → used ≤ r.cur → left used r < left used p
left_out used p r few u k out = rw (lt-ltb _ _ u, le-ltb _ _ out) (omega (arith, count_fits few k))

-- two items on from where live ones were passed
pub two_more : {I : List ℕ} {used on : ℕ} {p r : Passed} → LivesPast I used on p r → (i j : ItemRow) (q t : Passed) → q ≡ passed r i → t ≡ passed q j
    → p.count < t.count
two_more l i j q t e' e'' = omega (arith, l.more, ap (λ (z : Passed). z.count) e', ap (λ (z : Passed). z.count) e'')

pub left_on : {I : List ℕ} (used : ℕ) (p r : Passed) → used ≤ no_row → p.cur < used → p.count < r.count → Kept I used r → left used r < left used p
left_on used p r few u more k = go (dec_lt r.cur used) where
  go : Dec (r.cur < used) → left used r < left used p
  go (yes v) = rw (lt-ltb _ _ u, lt-ltb _ _ v) (omega (arith, count_fits few k))
  go (no n) = rw (lt-ltb _ _ u, le-ltb r.cur used (omega (arith, n))) (omega (arith, more, count_fits few k))
