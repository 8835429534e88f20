-- A list has no more items than the item table has rows. Assumes nothing.
use Rattle.std.specs.Prelude.{◌≤◌, ◌∷◌}
use Rattle.numbers.specs.Library.{ℕ, zero, suc, arith, Bool, true, false, Option, none, some, List, [], length, length-append}
use Rattle.numbers.specs.Prelude.{pick}
use Rattle.rows.specs.Prelude.{rows, items}
use Rattle.rows.specs.declared.{header.Header.Header, live.Live.Live}
use Rattle.rules.specs.Prelude.{Atlas, Found, find, live_of, atlas_in, Passes, live_in, lives_below, list}

-- a row has one live item at most
row_few : (a : Atlas) (r : ℕ) → length (live_in a r) ≤ 1
unfolding live_in
row_few a r = go (find r [] a.shelves) where
  take_or_not : (b : Bool) (l : Live) → length (pick b (l ∷ []) []) ≤ 1
  take_or_not true l = omega arith
  take_or_not false l = omega arith

  go : (o : Option Found) → length {A = Live} (elim o [ none ↦ [] | some w ↦ pick w.item.this.live (live_of a.limits w.shelf.this w.item.this ∷ []) [] ]) ≤ 1
  go none = omega arith
  go (some w) = take_or_not w.item.this.live (live_of a.limits w.shelf.this w.item.this)

below_few : (a : Atlas) (n : ℕ) → length (lives_below a n) ≤ n
unfolding lives_below
below_few a zero = omega arith
below_few a (suc n) = omega (arith, length-append (lives_below a n) (live_in a n), below_few a n, row_few a n)

pub list_few : (h : Header) (S I : List ℕ) → Passes h S I → length (list (atlas_in h S I)) ≤ rows items I
unfolding list atlas_in
list_few h S I p = omega (arith, below_few (atlas_in h S I) h.used_items, p.rule1.items_fit)
