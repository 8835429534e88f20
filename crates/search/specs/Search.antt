-- Where a request goes, by reads along the chains: the shelf chain, and the free list of a shelf, as far as used rows are met there. Assumes nothing.
use Rattle.std.specs.Prelude.{◌≤◌, ◌≡◌, ◌≢◌, ◌⊎◌, ◌&&◌, ◌||◌, ◌∷◌, Option, Some, None}
use Rattle.numbers.specs.Library.{ℕ, Bool, true, false, not, List, [], leb, ltb, eqb}
use Rattle.numbers.specs.Prelude.{pick, good_fit_to, no_row, no_item}
use Rattle.numbers.specs.declared.{index.ItemIndex.ItemIndex, request.Asked.Asked}
use Rattle.rows.specs.Prelude.{get, items, shelves}
use Rattle.rows.specs.declared.{header.Header.Header, shelf.ShelfRow.ShelfRow}
use Rattle.chains.specs.Prelude.{rows_from}
use Rattle.rules.specs.Prelude.{shelf_next, free_next}
use Rattle.search.specs.declared.Place.{Place}

-- What the walk holds: an item of a shelf, and the depth of that shelf if it is a good fit.
pub data Held : Type 0 where
  nothing : Held
  good : Place → ℕ → Held
  bad : Place → Held

-- the place that is held, or none
unfoldable pub place_of : Held → Option Place
place_of nothing = None
place_of (good p depth) = Some p
place_of (bad p) = Some p

-- this place is held, as a good fit of some depth or as a bad fit
abbrev pub IsHeld : Place → Held → Type 0
IsHeld p held = ((depth : ℕ) × (held ≡ good p depth)) ⊎ (held ≡ bad p)

-- ---- in a shelf

-- the first of these rows whose item is at least as wide as asked, or no row
unfoldable pub first_wide : List ℕ → ℕ → List ℕ → ItemIndex
first_wide I width [] = no_item
first_wide I width (r ∷ rest) = pick (leb width (get items I r).width) (record { 0 = r }) (first_wide I width rest)

unfoldable pub shelf_is_empty : ShelfRow → Bool
shelf_is_empty s = eqb s.is_empty 1

-- ---- along the chain

-- "Skip a shelf shallower than D, or not shallower than the good fit held."
unfoldable pub passed_by : Asked → Held → ShelfRow → Bool
passed_by a nothing s = ltb s.height a.depth
passed_by a (good p depth) s = ltb s.height a.depth || leb depth s.height
passed_by a (bad p) s = ltb s.height a.depth

-- "A shelf that is not empty and deeper than D + D/2 (halves dropped; 65535 at most) is a bad fit, skipped if anything is held."
unfoldable pub is_bad_fit : ℕ → ShelfRow → Bool
is_bad_fit goodTo s = not (shelf_is_empty s) && ltb goodTo s.height

unfoldable pub holds_any : Held → Bool
holds_any nothing = false
holds_any (good p depth) = true
holds_any (bad p) = true

unfoldable pub skipped : Asked → Held → ShelfRow → Bool
skipped a held s = passed_by a held s || (is_bad_fit (good_fit_to a.depth) s && holds_any held)

-- what is held after the shelf s, in row `at`, that is not skipped: an item of it in place of any held, if it has one wide enough
unfoldable pub tried : List ℕ → ℕ → Asked → Held → ℕ → ShelfRow → Held
tried I used a held at s =
    let item : ItemIndex = first_wide I a.width (rows_from (free_next I) used s.first_unallocated.0) in
    let place : Place = record { shelf = record { 0 = at }; item = item } in
    pick (eqb item.0 no_row) held (pick (is_bad_fit (good_fit_to a.depth) s) (bad place) (good place s.height))

unfoldable pub looked : List ℕ → ℕ → Asked → Held → ℕ → ShelfRow → Held
looked I used a held at s = pick (skipped a held s) held (tried I used a held at s)

-- "Holding one of depth D exactly ends the walk." A shelf of depth D is never a bad fit.
unfoldable pub is_exact : Asked → Held → Bool
is_exact a nothing = false
is_exact a (good p depth) = eqb depth a.depth
is_exact a (bad p) = false

-- what is held in the end, after the shelves in these rows; `used` item rows
unfoldable pub walk : List ℕ → List ℕ → ℕ → Asked → Held → List ℕ → Held
walk S I used a held [] = held
walk S I used a held (r ∷ rest) =
    let now_held : Held = looked I used a held r (get shelves S r) in
    pick (is_exact a now_held) now_held (walk S I used a now_held rest)

unfoldable pub search : Header → List ℕ → List ℕ → Asked → Held
search h S I a = walk S I h.used_items a nothing (rows_from (shelf_next S) h.used_shelves 0)

-- ---- the walk by the numbers that the code carries

-- a shelf is looked at only if it is shallower than this: than the good fit held, and else than any
unfoldable pub shallower_than : Held → ℕ
shallower_than nothing = 65536
shallower_than (good p depth) = depth
shallower_than (bad p) = 65536

-- whether a shelf is skipped, by that depth and whether a place is held
unfoldable pub skipped_by : ℕ → ℕ → ℕ → Bool → ShelfRow → Bool
skipped_by depth goodTo below holding s =
    (ltb s.height depth || leb below s.height) || (is_bad_fit goodTo s && holding)

-- From row `from` on, the chain leads to row `at` past shelves that are skipped. Each was read, so its depth fits in 16 bits.
pub data PastSkipped (S : List ℕ) (depth goodTo below : ℕ) (holding : Bool) (from : ℕ) : ℕ → Type 0 where
  start : PastSkipped S depth goodTo below holding from from
  past : (at : ℕ) → PastSkipped S depth goodTo below holding from at → at ≢ no_row → (get shelves S at).height ≤ 65535
      → skipped_by depth goodTo below holding (get shelves S at) ≡ true → PastSkipped S depth goodTo below holding from (shelf_next S at)

-- Row `at` is the first from `from` on whose shelf is not skipped, or no row where the chain ends before one.
pub record NextToTry (S : List ℕ) (depth goodTo below : ℕ) (holding : Bool) (from at : ℕ) : Type 0 where
  pub passed : PastSkipped S depth goodTo below holding from at
  pub tried : at ≢ no_row → skipped_by depth goodTo below holding (get shelves S at) ≡ false
