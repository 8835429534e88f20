-- Where a request goes: document 01's walk of the shelf chain. Assumes nothing.
use Rattle.std.specs.Prelude.{◌&&◌, ◌||◌, ◌∷◌}
use Rattle.numbers.specs.Library.{ℕ, Bool, true, false, not, List, [], Option, none, some, leb, ltb, eqb}
use Rattle.numbers.specs.Prelude.{pick, good_fit_to}
use Rattle.numbers.specs.declared.request.Asked.{Asked}
use Rattle.chains.specs.Prelude.{Focus}
use Rattle.rules.specs.Atlas.{Item, Shelf, is_empty_of}

-- What the walk holds: a shelf where it stands in the chain, and a row of its free list.
pub data Held : Type 0 where
  nothing : Held
  good : Focus Shelf → ℕ → Held
  bad : Focus Shelf → ℕ → Held

-- ---- in a shelf

unfoldable pub width_of : ℕ → List Item → ℕ
width_of row [] = 0
width_of row (i ∷ rest) = pick (eqb row i.row) i.width (width_of row rest)

-- the first row of a free list whose item is at least as wide as asked
unfoldable pub first_wide : ℕ → List Item → List ℕ → Option ℕ
unfolding width_of
first_wide width items [] = none
first_wide width items (row ∷ rest) = pick (leb width (width_of row items)) (some row) (first_wide width items rest)

-- ---- along the chain

-- "Skip a shelf shallower than D, or not shallower than the good fit held."
unfoldable pub passed_by : Asked → Held → Shelf → Bool
passed_by a nothing s = ltb s.depth a.depth
passed_by a (good g row) s = ltb s.depth a.depth || leb g.this.depth s.depth
passed_by a (bad b row) s = ltb s.depth a.depth

-- "A shelf that is not empty and deeper than D + D/2 (halves dropped; 65535 at most) is a bad fit, skipped if anything is held."
unfoldable pub is_bad_fit : Asked → Shelf → Bool
unfolding is_empty_of good_fit_to
is_bad_fit a s = not (is_empty_of s.items) && ltb (good_fit_to a.depth) s.depth

unfoldable pub holds_any : Held → Bool
holds_any nothing = false
holds_any (good g row) = true
holds_any (bad b row) = true

-- what is held after a shelf that is not skipped: an item of it in place of any held, if it has one wide enough
unfoldable pub tried : Asked → Held → Focus Shelf → Held
unfolding first_wide is_bad_fit
tried a held f =
    elim (first_wide a.width f.this.items f.this.free)
    [ none ↦ held | some row ↦ pick (is_bad_fit a f.this) (bad f row) (good f row) ]

unfoldable pub looked : Asked → Held → Focus Shelf → Held
unfolding passed_by is_bad_fit holds_any tried
looked a held f = pick (passed_by a held f.this || (is_bad_fit a f.this && holds_any held)) held (tried a held f)

-- "Holding one of depth D exactly ends the walk." A shelf of depth D is never a bad fit.
unfoldable pub is_exact : Asked → Held → Bool
is_exact a nothing = false
is_exact a (good g row) = eqb g.this.depth a.depth
is_exact a (bad b row) = false

unfoldable pub walk : Asked → Held → List Shelf → List Shelf → Held
unfolding looked is_exact
walk a held before [] = held
walk a held before (s ∷ after) =
    let now_held : Held = looked a held (record { before = before; this = s; after = after }) in
    pick (is_exact a now_held) now_held (walk a now_held (s ∷ before) after)

unfoldable pub search : Asked → List Shelf → Held
unfolding walk
search a shelves = walk a nothing [] shelves
