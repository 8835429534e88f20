-- The audit: document 01's seven rules, each under its number, over any header and any two tables; and the atlas that lies in tables that
-- keep them. `S` is the shelf table and `I` the item table throughout. Assumes nothing.
use Rattle.std.specs.Prelude.{◌+◌, ◌*◌, ◌%◌, ◌≤◌, ◌<◌, ◌≡◌, ◌&&◌, ◌∷◌}
use Rattle.numbers.specs.Library.{ℕ, Bool, false, not, List, [], map, ltb, eqb}
use Rattle.numbers.specs.Prelude.{pick, no_row, along_step, columns, WithinLimits}
use Rattle.rows.specs.Prelude.{rows, get, items, shelves, links_of}
use Rattle.pool.specs.Pool.{FreedShelf, FreedItem}
use Rattle.rows.specs.declared.{header.Header.Header, shelf.ShelfRow.ShelfRow, item.ItemRow.ItemRow}
use Rattle.chains.specs.Prelude.{◌∈◌, ◌iff◌, Distinct, Each, gather, first_of, rows_from, Ends, Walk}
use Rattle.rules.specs.Atlas.{Item, Shelf, Freed, Atlas}
use Rattle.rules.specs.Stores.{flag, no_links}

-- ---- reading the tables: the rows that are met along each chain

-- the links of a row, as numbers
abbrev pub shelf_next : List ℕ → ℕ → ℕ
shelf_next S r = (get shelves S r).next.0

abbrev pub item_next : List ℕ → ℕ → ℕ
item_next I r = (get items I r).next.0

abbrev pub free_next : List ℕ → ℕ → ℕ
free_next I r = (get items I r).next_unallocated.0

-- the shelf chain, which always starts at row 0
unfoldable pub shelves_met : Header → List ℕ → List ℕ
shelves_met h S = rows_from (shelf_next S) h.used_shelves 0

-- the items and the free list of the shelf in row `on`
unfoldable pub items_met : Header → List ℕ → List ℕ → ℕ → List ℕ
items_met h S I on = rows_from (item_next I) h.used_items (get shelves S on).first_item.0

unfoldable pub free_met : Header → List ℕ → List ℕ → ℕ → List ℕ
free_met h S I on = rows_from (free_next I) h.used_items (get shelves S on).first_unallocated.0

-- the items of all the shelves
unfoldable pub all_items_met : Header → List ℕ → List ℕ → List ℕ
unfolding shelves_met items_met
all_items_met h S I = gather (items_met h S I) (shelves_met h S)

unfoldable pub freed_shelves_met : Header → List ℕ → List ℕ
freed_shelves_met h S = rows_from (shelf_next S) h.used_shelves h.free_shelves.0

unfoldable pub freed_items_met : Header → List ℕ → List ℕ
freed_items_met h I = rows_from (item_next I) h.used_items h.free_items.0

-- ---- rule 1: "Header within the limits above, vertical 0 or 1, S from 1 to W and a multiple of the along alignment, used rows within capacity."

pub record Rule1 (h : Header) (S I : List ℕ) : Type 0 where
  pub limits : WithinLimits h.limits
  pub shelves_fit : h.used_shelves ≤ rows shelves S
  pub items_fit : h.used_items ≤ rows items I

-- ---- rule 2: the shelf chain

-- How far a walk of the shelf chain has come: the row before, the column, the depth reached in it, and whether an empty shelf ends there.
pub record Down : Type 0 where
  pub prev : ℕ
  pub column : ℕ
  pub y : ℕ
  pub under_empty : Bool

-- "a shelf's empty flag is 1 if its first item is a used row, free, with no next, else 0"
unfoldable pub one_free_of : Header → List ℕ → ℕ → Bool
one_free_of h I first = ltb first h.used_items && eqb (get items I first).allocated 0 && eqb (item_next I first) no_row

-- "The shelf chain is linked both ways, columns at 0, S, 2S and so on to C of them; in each, depths are at least 1 and run from 0 to H without
-- a gap; no two empty shelves adjoin in a column."
pub record ShelfRight (h : Header) (I : List ℕ) (d : Down) (s : ShelfRow) : Type 0 where
  pub back : s.prev.0 ≡ d.prev
  pub at_column : s.x ≡ d.column * h.limits.shelf_width
  pub at_depth : s.y ≡ d.y
  pub some_depth : 1 ≤ s.height
  pub in_column : d.y + s.height ≤ h.limits.height
  pub flag_right : s.is_empty ≡ flag (one_free_of h I s.first_item.0)
  pub apart : d.under_empty && eqb s.is_empty 1 ≡ false

-- past the shelf in row r: on in its column, or at the head of the next
unfoldable pub down : Header → Down → ℕ → ShelfRow → Down
down h d r s =
    pick (eqb (d.y + s.height) h.limits.height)
    (record { prev = r; column = d.column + 1; y = 0; under_empty = false })
    (record { prev = r; column = d.column; y = d.y + s.height; under_empty = eqb s.is_empty 1 })

abbrev pub at_top_of : Down
at_top_of = record { prev = no_row; column = 0; y = 0; under_empty = false }

abbrev pub AllColumns : Header → Down → Type 0
AllColumns h d = (d.column ≡ columns h.limits) × (d.y ≡ 0)

unfoldable pub Rule2 : Header → List ℕ → List ℕ → Type 0
Rule2 h S I =
    Walk (shelf_next S) (λ d r. ShelfRight h I d (get shelves S r)) (λ d r. down h d r (get shelves S r)) (AllColumns h) h.used_shelves 0 at_top_of

-- ---- rule 3: the items of each shelf

-- How far a walk of a shelf's items has come: the row before, the x reached, and whether a free item ends there.
pub record Along : Type 0 where
  pub prev : ℕ
  pub x : ℕ
  pub after_free : Bool

-- "Each shelf's items are linked both ways, name that shelf, start at its x, run S without a gap, with widths that are positive multiples of
-- the along alignment and flags 0 or 1; no two free items adjoin."
pub record ItemRight (h : Header) (on : ℕ) (d : Along) (i : ItemRow) : Type 0 where
  pub back : i.prev.0 ≡ d.prev
  pub named : i.shelf.0 ≡ on
  pub at_x : i.x ≡ d.x
  pub some_width : 1 ≤ i.width
  pub aligned : i.width % along_step h.limits ≡ 0
  pub flag_right : i.allocated ≤ 1
  pub apart : d.after_free && eqb i.allocated 0 ≡ false

unfoldable pub along : Along → ℕ → ItemRow → Along
along d r i = record { prev = r; x = d.x + i.width; after_free = eqb i.allocated 0 }

abbrev pub at_left_of : ShelfRow → Along
at_left_of s = record { prev = no_row; x = s.x; after_free = false }

-- the items of the shelf in row `on`
unfoldable pub ItemsRight : Header → List ℕ → List ℕ → ℕ → Type 0
ItemsRight h S I on =
    Walk (item_next I) (λ d r. ItemRight h on d (get items I r)) (λ d r. along d r (get items I r))
    (λ d. d.x ≡ (get shelves S on).x + h.limits.shelf_width) h.used_items (get shelves S on).first_item.0 (at_left_of (get shelves S on))

unfoldable pub Rule3 : Header → List ℕ → List ℕ → Type 0
unfolding shelves_met
Rule3 h S I = Each (ItemsRight h S I) (shelves_met h S)

-- ---- rule 4: "No row serves twice on these chains."

pub record Rule4 (h : Header) (S I : List ℕ) : Type 0 where
  pub shelves_once : Distinct (shelves_met h S)
  pub items_once : Distinct (all_items_met h S I)

-- ---- rule 5: "Each shelf's free list is linked both ways and holds exactly its free items, once each."

pub record FreeListRight (h : Header) (S I : List ℕ) (on : ℕ) : Type 0 where
  pub linked : Walk (free_next I) (λ prev r. (get items I r).prev_unallocated.0 ≡ prev) (λ prev r. r) (λ last. Unit {0}) h.used_items (get shelves S on).first_unallocated.0 no_row
  pub once : Distinct (free_met h S I on)
  pub exactly : (r : ℕ) → (r ∈ free_met h S I on) iff ((r ∈ items_met h S I on) × ((get items I r).allocated ≡ 0))

unfoldable pub Rule5 : Header → List ℕ → List ℕ → Type 0
unfolding shelves_met
Rule5 h S I = Each (FreeListRight h S I) (shelves_met h S)

-- ---- rule 6: "The freed chains hold exactly the used rows that are on no shelf or item chain, once each."

-- of one table: its used rows, those on its chains, and its freed chain from row `head` on
pub record FreedRight (next : ℕ → ℕ) (used head : ℕ) (serving : List ℕ) : Type 0 where
  pub starts : first_of (rows_from next used head) ≡ head
  pub ends : Ends next used (rows_from next used head)
  pub once : Distinct (rows_from next used head)
  pub exactly : (r : ℕ) → (r ∈ rows_from next used head) iff ((r < used) × (¬ (r ∈ serving)))

pub record Rule6 (h : Header) (S I : List ℕ) : Type 0 where
  pub shelves_freed : FreedRight (shelf_next S) h.used_shelves h.free_shelves.0 (shelves_met h S)
  pub items_freed : FreedRight (item_next I) h.used_items h.free_items.0 (all_items_met h S I)

-- ---- rule 7: "Occupied is right; an allocated item's two free links are 65535; a freed row holds zero but for next and generation."

-- a sum over rows
abbrev pub sum_over : (ℕ → ℕ) → List ℕ → ℕ
sum_over f [] = 0
sum_over f (r ∷ rest) = f r + sum_over f rest

-- the live area of the shelf in row `on`
unfoldable pub area_met : Header → List ℕ → List ℕ → ℕ → ℕ
unfolding items_met
area_met h S I on =
    sum_over (λ r. pick (eqb (get items I r).allocated 0) 0 ((get items I r).width * (get shelves S on).height)) (items_met h S I on)

pub record Rule7 (h : Header) (S I : List ℕ) : Type 0 where
  pub occupied : h.occupied ≡ sum_over (area_met h S I) (shelves_met h S)
  pub live_unlinked : Each (λ r. (get items I r).allocated ≡ 1 → links_of (get items I r) ≡ no_links) (all_items_met h S I)
  pub freed_shelves_zero : Each (λ r. FreedShelf (get shelves S r)) (freed_shelves_met h S)
  pub freed_items_zero : Each (λ r. FreedItem (get items I r)) (freed_items_met h I)

-- ---- the audit passes exactly when all hold

pub record Passes (h : Header) (S I : List ℕ) : Type 0 where
  pub rule1 : Rule1 h S I
  pub rule2 : Rule2 h S I
  pub rule3 : Rule3 h S I
  pub rule4 : Rule4 h S I
  pub rule5 : Rule5 h S I
  pub rule6 : Rule6 h S I
  pub rule7 : Rule7 h S I

-- "Clear asks only audit rule 1 and C rows in each table."
pub record PassesForClear (h : Header) (S I : List ℕ) : Type 0 where
  pub rule1 : Rule1 h S I
  pub shelf_room : columns h.limits ≤ rows shelves S
  pub item_room : columns h.limits ≤ rows items I

-- ---- the atlas that is met in the tables

unfoldable pub item_in_of : List ℕ → ℕ → Item
item_in_of I r = record { row = r; x = (get items I r).x; width = (get items I r).width; live = not (eqb (get items I r).allocated 0); generation = (get items I r).generation }

unfoldable pub shelf_in : Header → List ℕ → List ℕ → ℕ → Shelf
unfolding item_in_of items_met free_met
shelf_in h S I on = record {
  row = on;
  x = (get shelves S on).x;
  y = (get shelves S on).y;
  depth = (get shelves S on).height;
  items = map (item_in_of I) (items_met h S I on);
  free = free_met h S I on;
}

unfoldable pub freed_in : List ℕ → ℕ → Freed
freed_in I r = record { row = r; generation = (get items I r).generation }

unfoldable pub atlas_in : Header → List ℕ → List ℕ → Atlas
unfolding shelves_met shelf_in freed_shelves_met freed_items_met freed_in
atlas_in h S I = record {
  limits = h.limits;
  shelves = map (shelf_in h S I) (shelves_met h S);
  rows = record {
    shelves = record { used = h.used_shelves; freed = freed_shelves_met h S };
    items = record { used = h.used_items; freed = map (freed_in I) (freed_items_met h I) };
  };
}
