-- What each call comes to for an atlas that passed the audit, with the checks in document 01's order. Answer 3 is given before any of this, where
-- the audit fails. Assumes nothing.
use Rattle.std.specs.Prelude.{◌&&◌, ◌||◌, ◌∷◌, ◌++◌, Ok, Err}
use Rattle.numbers.specs.Library.{ℕ, zero, suc, Bool, true, List, [], none, some, ℤ, ltb, length}
use Rattle.numbers.specs.Prelude.{pick, asked, create_numbers, columns, space_left, first_axis, second_axis, refusal_number}
use Rattle.numbers.specs.declared.limits.Limits.{Limits}
use Rattle.rows.specs.declared.live.Live.{Live}
use Rattle.rules.specs.Atlas.{Shelf, Atlas, Room, is_empty_of, occupied, fresh}
use Rattle.rules.specs.Outcome.{Outcome, refused, gives, Given}
use Rattle.rules.specs.Grant.{grant, live_of}
use Rattle.rules.specs.Release.{find, find_live, release_found}

-- ---- create: 1, 2, then 7 where either table has fewer than C rows

unfoldable pub make_within : Room → Limits → Outcome Atlas
unfolding columns fresh
make_within room l = pick (ltb room.shelves (columns l) || ltb room.items (columns l)) (refused 7) (gives (fresh l))

unfoldable pub make : Room → ℤ → ℤ → ℤ → ℤ → ℤ → ℤ → Outcome Atlas
unfolding create_numbers make_within
make room w h alignWidth alignHeight vertical columns-asked =
    elim (create_numbers w h alignWidth alignHeight vertical columns-asked) [ Err e ↦ refused (refusal_number e) | Ok l ↦ make_within room l ]

-- ---- allocate: 4 and 5 on the request, 6 and 7 on the atlas

unfoldable pub allocate : Room → Atlas → ℤ → ℤ → Outcome (Given Live)
unfolding asked grant
allocate room a w h =
    elim (asked a.limits w h) [
      | Err e ↦ refused (refusal_number e)
      | Ok q ↦ grant room a q
    ]

-- ---- release and look-up: 8 where the row and generation name no live item

unfoldable pub release : Atlas → ℕ → ℕ → Outcome Atlas
unfolding find_live release_found
release a row generation = elim (find_live a row generation) [ none ↦ refused 8 | some w ↦ gives (release_found a w) ]

unfoldable pub look_up : Atlas → ℕ → ℕ → Outcome Live
unfolding find_live live_of
look_up a row generation =
    elim (find_live a row generation) [ none ↦ refused 8 | some w ↦ gives (live_of a.limits w.shelf.this w.item.this) ]

-- ---- list: live items by rising row; 10 where the lent list has fewer records than there are items

unfoldable pub live_in : Atlas → ℕ → List Live
unfolding find live_of
live_in a row =
    elim (find row [] a.shelves) [ none ↦ [] | some w ↦ pick w.item.this.live (live_of a.limits w.shelf.this w.item.this ∷ []) [] ]

-- of the first n rows
unfoldable pub lives_below : Atlas → ℕ → List Live
unfolding live_in
lives_below a zero = []
lives_below a (suc n) = lives_below a n ++ live_in a n

unfoldable pub list : Atlas → List Live
unfolding lives_below
list a = lives_below a a.rows.items.used

-- in a list of so many records
unfoldable pub list_in : ℕ → Atlas → Outcome (List Live)
unfolding list
list_in records a = pick (ltb records (length (list a))) (refused 10) (gives (list a))

-- ---- totals, size, is_empty; clear gives a fresh atlas again

unfoldable pub free_space : Atlas → ℕ
unfolding occupied space_left
free_space a = space_left a.limits (occupied a.shelves)

-- as it was given: width, then height
unfoldable pub size_x : Atlas → ℕ
unfolding first_axis
size_x a = first_axis a.limits.vertical a.limits.width a.limits.height

unfoldable pub size_y : Atlas → ℕ
unfolding second_axis
size_y a = second_axis a.limits.vertical a.limits.width a.limits.height

unfoldable pub all_empty : List Shelf → Bool
unfolding is_empty_of
all_empty [] = true
all_empty (s ∷ rest) = is_empty_of s.items && all_empty rest

unfoldable pub clear : Atlas → Atlas
unfolding fresh
clear a = fresh a.limits
