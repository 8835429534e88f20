-- The four merges of a release by cases: no neighbour there, one that stays, one that is merged. Assumes nothing.
use Rattle.std.specs.Prelude.{◌+◌, ◌≡◌, ◌∷◌}
use Rattle.numbers.specs.Library.{ℕ, true, false, List, []}
use Rattle.chains.specs.Prelude.{back_onto}
use Rattle.rules.specs.Prelude.{Item, Shelf, Rows, replace_row, Loose, Stack, free_item_row, free_shelf, free_with, deeper, joins, merge_next, merge_into, merge_below}
use Rattle.rules.specs.Prelude.{merge_above}
use Rattle.laws.proofs.Shape.Around.{pick_cases}

-- ---- items

abbrev pub loose : List Item → Item → List Item → List ℕ → Rows → Loose
loose ib i ia free r = record { items = record { before = ib; this = i; after = ia }; free = free; rows = r }

abbrev pub items_of : Loose → List Item
items_of m = back_onto m.items.before (m.items.this ∷ m.items.after)

pub next_cases : (Q : List Item → Loose → Type 0) (ib : List Item) (i : Item) (free : List ℕ) (r : Rows)
    → Q [] (loose ib (free_with i i.width) [] free r)
    → ((n : Item) (ia : List Item) → n.live ≡ true → Q (n ∷ ia) (loose ib (free_with i i.width) (n ∷ ia) free r))
    → ((n : Item) (ia : List Item) → n.live ≡ false → Q (n ∷ ia) (loose ib (free_with i (i.width + n.width)) ia (replace_row n.row [] free) (free_item_row n r)))
    → (ia : List Item) → Q ia (merge_next (loose ib i ia free r))
unfolding merge_next
next_cases Q ib i free r ends live merged [] = ends
next_cases Q ib i free r ends live merged (n ∷ ia) = pick_cases (Q (n ∷ ia)) n.live _ _ (live n ia) (merged n ia)

pub into_cases : (Q : List Item → Loose → Type 0) (i : Item) (ia : List Item) (free : List ℕ) (r : Rows)
    → Q [] (loose [] i ia (i.row ∷ free) r)
    → ((p : Item) (ib : List Item) → p.live ≡ true → Q (p ∷ ib) (loose (p ∷ ib) i ia (i.row ∷ free) r))
    → ((p : Item) (ib : List Item) → p.live ≡ false → Q (p ∷ ib) (loose ib (free_with p (p.width + i.width)) ia free (free_item_row i r)))
    → (ib : List Item) → Q ib (merge_into (loose ib i ia free r))
unfolding merge_into
into_cases Q i ia free r starts live merged [] = starts
into_cases Q i ia free r starts live merged (p ∷ ib) = pick_cases (Q (p ∷ ib)) p.live _ _ (live p ib) (merged p ib)

-- ---- shelves

abbrev pub stack : List Shelf → Shelf → List Shelf → Rows → Stack
stack bs s ys r = record { shelves = record { before = bs; this = s; after = ys }; rows = r }

abbrev pub shelves_of : Stack → List Shelf
shelves_of k = back_onto k.shelves.before (k.shelves.this ∷ k.shelves.after)

pub below_cases : (Q : List Shelf → Stack → Type 0) (bs : List Shelf) (s : Shelf) (r : Rows)
    → Q [] (stack bs s [] r)
    → ((n : Shelf) (ys : List Shelf) → joins s n ≡ true → Q (n ∷ ys) (stack bs (deeper s (s.depth + n.depth)) ys (free_shelf n r)))
    → ((n : Shelf) (ys : List Shelf) → joins s n ≡ false → Q (n ∷ ys) (stack bs s (n ∷ ys) r))
    → (ys : List Shelf) → Q ys (merge_below (stack bs s ys r))
unfolding merge_below
below_cases Q bs s r ends merged apart [] = ends
below_cases Q bs s r ends merged apart (n ∷ ys) = pick_cases (Q (n ∷ ys)) (joins s n) _ _ (merged n ys) (apart n ys)

pub above_cases : (Q : List Shelf → Stack → Type 0) (s : Shelf) (ys : List Shelf) (r : Rows)
    → Q [] (stack [] s ys r)
    → ((p : Shelf) (bs : List Shelf) → joins p s ≡ true → Q (p ∷ bs) (stack bs (deeper p (p.depth + s.depth)) ys (free_shelf s r)))
    → ((p : Shelf) (bs : List Shelf) → joins p s ≡ false → Q (p ∷ bs) (stack (p ∷ bs) s ys r))
    → (bs : List Shelf) → Q bs (merge_above (stack bs s ys r))
unfolding merge_above
above_cases Q s ys r starts merged apart [] = starts
above_cases Q s ys r starts merged apart (p ∷ bs) = pick_cases (Q (p ∷ bs)) (joins p s) _ _ (merged p bs) (apart p bs)
