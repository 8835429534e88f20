-- Whether the rows that are freed or unused suffice for the splits that a place needs: at most one shelf row and two item rows. Assumes nothing.
use Rattle.std.specs.Prelude.{◌+◌, ◌-◌, ◌≤◌, ◌≡◌, ◌&&◌}
use Rattle.numbers.specs.Library.{ℕ, refl, Bool, true, false, not, List, arith, leb, eqb, le-leb, not-true}
use Rattle.numbers.specs.Prelude.{pick, no_row}
use Rattle.rows.specs.Prelude.{item_capacity, item_at, shelf_capacity}
use Rattle.rows.specs.declared.header.Header.{Header}

-- the rows left of a table, counting one freed shelf row and two freed item rows at most: no place needs more
unfoldable pub freed_shelves : Header → ℕ
freed_shelves h = pick (eqb h.free_shelves.0 no_row) 0 1

unfoldable pub freed_items : Header → List ℕ → ℕ
freed_items h I = pick (eqb h.free_items.0 no_row) 0 (pick (eqb (item_at I h.free_items).next.0 no_row) 1 2)

unfoldable pub spare_shelves : Header → List ℕ → ℕ
spare_shelves h S = (shelf_capacity S - h.used_shelves) + freed_shelves h

unfoldable pub spare_items : Header → List ℕ → ℕ
spare_items h I = (item_capacity I - h.used_items) + freed_items h I

unfoldable pub count : Bool → ℕ
count true = 1
count false = 0

-- so few that counting them does not wrap
pub few_shelves : (h : Header) (n : ℕ) → n ≡ freed_shelves h → n ≤ 1
unfolding freed_shelves
few_shelves h n e = rw e (go (eqb h.free_shelves.0 no_row)) where
  go : (a : Bool) → pick a 0 1 ≤ 1
  go true = omega arith
  go false = omega arith

pub few_items : (h : Header) (I : List ℕ) (n : ℕ) → n ≡ freed_items h I → n ≤ 2
unfolding freed_items
few_items h I n e = rw e (go (eqb h.free_items.0 no_row) (eqb (item_at I h.free_items).next.0 no_row)) where
  go : (a b : Bool) → pick a 0 (pick b 1 2) ≤ 2
  go true b = omega arith
  go false true = omega arith
  go false false = omega arith

pub few_splits : (split : Bool) (n : ℕ) → n ≡ count split → n ≤ 1
unfolding count
few_splits true n e = omega arith
few_splits false n e = omega arith

unfoldable pub enough_rows : Header → List ℕ → List ℕ → Bool → Bool → Bool
enough_rows h S I shelfSplit itemSplit =
    leb (count shelfSplit) (spare_shelves h S) && leb (count shelfSplit + count itemSplit) (spare_items h I)

-- where nothing is split, no row is needed
pub none_needed : (h : Header) (S I : List ℕ) (shelfSplit itemSplit : Bool) → not shelfSplit ≡ true → not itemSplit ≡ true → enough_rows h S I shelfSplit itemSplit ≡ true
unfolding enough_rows count
none_needed h S I shelfSplit itemSplit s i =
    rw (not-true shelfSplit s, not-true itemSplit i, le-leb 0 (spare_shelves h S) (omega arith), le-leb 0 (spare_items h I) (omega arith))

-- for an item that is split a freed row is enough
one_freed : (h : Header) (I : List ℕ) → eqb h.free_items.0 no_row ≡ false → 1 ≤ freed_items h I
unfolding freed_items
one_freed h I e = rw e (go (eqb (item_at I h.free_items).next.0 no_row)) where
  go : (b : Bool) → 1 ≤ pick b 1 2
  go true = omega arith
  go false = omega arith

pub freed_enough : (h : Header) (S I : List ℕ) (shelfSplit itemSplit : Bool) → not shelfSplit ≡ true → eqb h.free_items.0 no_row ≡ false
    → enough_rows h S I shelfSplit itemSplit ≡ true
unfolding enough_rows count spare_items
freed_enough h S I shelfSplit itemSplit s e =
    let enough : count false + count itemSplit ≤ spare_items h I = omega (arith, few_splits itemSplit (count itemSplit) refl, one_freed h I e) in
    rw (not-true shelfSplit s, le-leb 0 (spare_shelves h S) (omega arith), le-leb (count false + count itemSplit) (spare_items h I) enough)
