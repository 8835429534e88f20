-- What a grant changes: rows are taken, the shelf and the item are split where 01 says so. Assumes nothing.
use Rattle.std.specs.Prelude.{◌+◌, ◌-◌, ◌%◌, ◌&&◌, ◌||◌, ◌∷◌, ◌++◌}
use Rattle.numbers.specs.Library.{ℕ, Bool, true, false, List, [], Option, none, some, length, ltb, eqb}
use Rattle.numbers.specs.Prelude.{pick, large_enough_to_split, first_axis, second_axis}
use Rattle.numbers.specs.declared.{limits.Limits.Limits, request.Asked.Asked}
use Rattle.chains.specs.Prelude.{Focus, back_onto}
use Rattle.rows.specs.declared.live.Live.{Live}
use Rattle.rules.specs.Outcome.{Outcome, refused, gives, Given}
use Rattle.rules.specs.Atlas.{Item, Shelf, Freed, Pool, Rows, Atlas, Room, is_empty_of, resized, free_item}
use Rattle.rules.specs.Search.{nothing, good, bad, search}

-- ---- rows: the latest freed one first, with its old generation plus one; else the next unused one, generation 1

unfoldable pub new_row : {E : Type 0} → (E → ℕ) → Pool E → ℕ
new_row row p = elim p.freed [ [] ↦ p.used | f ∷ rest ↦ row f ]

unfoldable pub new_generation : Pool Freed → ℕ
new_generation p = elim p.freed [ [] ↦ 1 | f ∷ rest ↦ (f.generation + 1) % 65536 ]

-- the pool with that row taken
unfoldable pub taken : {E : Type 0} → Pool E → Pool E
taken p = record {
  used = elim p.freed [ [] ↦ p.used + 1 | f ∷ rest ↦ p.used ];
  freed = elim p.freed [ [] ↦ [] | f ∷ rest ↦ rest ];
}

unfoldable pub new_shelf_row : Rows → ℕ
unfolding new_row
new_shelf_row r = new_row (λ f. f) r.shelves

unfoldable pub new_item_row : Rows → ℕ
unfolding new_row
new_item_row r = new_row (λ (f : Freed). f.row) r.items

unfoldable pub shelf_taken : Rows → Rows
unfolding taken
shelf_taken r = record { shelves = taken r.shelves; items = r.items }

unfoldable pub item_taken : Rows → Rows
unfolding taken
item_taken r = record { shelves = r.shelves; items = taken r.items }

-- ---- the two splits

-- "An empty shelf deeper than D + 8 is split: depth D stays, and a new empty shelf with one item of width S follows it."
unfoldable pub splits_shelf : Asked → Shelf → Bool
unfolding is_empty_of
splits_shelf a s = is_empty_of s.items && large_enough_to_split a.depth s.depth

unfoldable pub upper_part : ℕ → Shelf → Shelf
upper_part d s = record { row = s.row; x = s.x; y = s.y; depth = d; items = s.items; free = s.free }

-- in the next shelf row and the next item row
unfoldable pub lower_part : Limits → Rows → ℕ → Shelf → Shelf
unfolding new_shelf_row new_item_row new_generation
lower_part l r d s = record {
  row = new_shelf_row r;
  x = s.x;
  y = s.y + d;
  depth = s.depth - d;
  items = free_item (new_item_row r) s.x l.shelf_width (new_generation r.items) ∷ [];
  free = new_item_row r ∷ [];
}

-- "An item more than 8 wider than asked is split; the new free item takes its place in the free list."
unfoldable pub splits_item : Asked → Item → Bool
splits_item a i = large_enough_to_split a.width i.width

unfoldable pub granted_item : Item → ℕ → Item
granted_item i width = resized i width true

unfoldable pub rest_of : Rows → Item → ℕ → Item
unfolding new_item_row new_generation
rest_of r i width = free_item (new_item_row r) (i.x + width) (i.width - width) (new_generation r.items)

-- a row of a list replaced by other rows
unfoldable pub replace_row : ℕ → List ℕ → List ℕ → List ℕ
replace_row row new [] = []
replace_row row new (r ∷ rest) = pick (eqb row r) (new ++ rest) (r ∷ replace_row row new rest)

-- the shelf with other items and another free list
unfoldable pub holding : Shelf → List Item → List ℕ → Shelf
holding s items free = record { row = s.row; x = s.x; y = s.y; depth = s.depth; items = items; free = free }

-- the shelf with an item granted whole, and with the left part of it granted
unfoldable pub grant_whole : Shelf → Focus Item → Shelf
unfolding granted_item replace_row holding
grant_whole s f =
    holding s (back_onto f.before (granted_item f.this f.this.width ∷ f.after)) (replace_row f.this.row [] s.free)

unfoldable pub grant_part : Rows → Shelf → Focus Item → ℕ → Shelf
unfolding granted_item rest_of replace_row holding
grant_part r s f width =
    holding s (back_onto f.before (granted_item f.this width ∷ rest_of r f.this width ∷ f.after)) (replace_row f.this.row (new_item_row r ∷ []) s.free)

-- ---- answer 7: the chosen splits need more rows of a table than are freed or unused there

unfoldable pub rows_left_of : {E : Type 0} → ℕ → Pool E → ℕ
rows_left_of room p = (room - p.used) + length p.freed

unfoldable pub count : Bool → ℕ
count true = 1
count false = 0

unfoldable pub too_few_rows : Room → Rows → Bool → Bool → Bool
unfolding rows_left_of count
too_few_rows room r shelfSplit itemSplit =
    ltb (rows_left_of room.shelves r.shelves) (count shelfSplit)
    || ltb (rows_left_of room.items r.items) (count shelfSplit + count itemSplit)

-- ---- a grant

-- the id of an item and its rectangle, from its least corner to its greatest; with vertical shelves x and y change places
unfoldable pub live_of : Limits → Shelf → Item → Live
unfolding first_axis second_axis
live_of l s i = record {
  row = i.row;
  generation = i.generation;
  x0 = first_axis l.vertical i.x s.y;
  y0 = second_axis l.vertical i.x s.y;
  x1 = first_axis l.vertical (i.x + i.width) (s.y + s.depth);
  y1 = second_axis l.vertical (i.x + i.width) (s.y + s.depth);
}

abbrev pub grants : Live → Atlas → Outcome (Given Live)
grants live a = gives (record { told = live; atlas = a })

-- the item of shelf s granted, whole or in part; `below` is what then follows the shelf in the chain
unfoldable pub grant_item : Atlas → Asked → Focus Shelf → Focus Item → List Shelf → Rows → Outcome (Given Live)
unfolding splits_item grant_whole grant_part item_taken live_of granted_item
grant_item a asked f i below r =
    pick (splits_item asked i.this)
    (grants (live_of a.limits f.this (granted_item i.this asked.width))
    (record { limits = a.limits; shelves = back_onto f.before (grant_part r f.this i asked.width ∷ below); rows = item_taken r }))
    (grants (live_of a.limits f.this (granted_item i.this i.this.width))
    (record { limits = a.limits; shelves = back_onto f.before (grant_whole f.this i ∷ below); rows = r }))

-- "The shelf split takes its shelf row and item row before the item split takes one."
unfoldable pub grant_in_shelf : Room → Atlas → Asked → Focus Shelf → Focus Item → Outcome (Given Live)
unfolding grant_item splits_shelf splits_item too_few_rows shelf_taken item_taken upper_part lower_part
grant_in_shelf room a asked f i =
    pick (too_few_rows room a.rows (splits_shelf asked f.this) (splits_item asked i.this)) (refused 7)
    (pick (splits_shelf asked f.this)
    (grant_item a asked (record { before = f.before; this = upper_part asked.depth f.this; after = f.after }) i
    (lower_part a.limits a.rows asked.depth f.this ∷ f.after) (item_taken (shelf_taken a.rows)))
    (grant_item a asked f i f.after a.rows))

-- the first item of this row, where it stands
unfoldable pub find_item : ℕ → List Item → List Item → Option (Focus Item)
find_item row before [] = none
find_item row before (i ∷ after) =
    pick (eqb row i.row) (some (record { before = before; this = i; after = after })) (find_item row (i ∷ before) after)

unfoldable pub grant_row : Room → Atlas → Asked → Focus Shelf → ℕ → Outcome (Given Live)
unfolding find_item grant_in_shelf
grant_row room a asked f row = elim (find_item row [] f.this.items) [ none ↦ refused 6 | some i ↦ grant_in_shelf room a asked f i ]

-- answer 6: no shelf and free item fit
unfoldable pub grant : Room → Atlas → Asked → Outcome (Given Live)
unfolding search grant_row
grant room a asked =
    elim (search asked a.shelves) [ nothing ↦ refused 6 | good f row ↦ grant_row room a asked f row | bad f row ↦ grant_row room a asked f row ]
