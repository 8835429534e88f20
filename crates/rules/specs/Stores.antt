-- How an atlas lies in a header and two tables: what each row says. The numbers after the used rows are spoken of nowhere. Assumes nothing.
use Rattle.std.specs.Prelude.{◌≡◌, ◌∷◌}
use Rattle.numbers.specs.Library.{ℕ, Bool, true, false, List, []}
use Rattle.numbers.specs.Prelude.{pick, no_row}
use Rattle.rows.specs.Prelude.{rows, get, items, shelves, Body, Links, body_of, links_of}
use Rattle.pool.specs.Pool.{freed_shelf_row, freed_item_row}
use Rattle.rows.specs.declared.{header.Header.Header, shelf.ShelfRow.ShelfRow, item.ItemRow.ItemRow}
use Rattle.chains.specs.Prelude.{◌∈◌, Each, gather, Kind, first_row, first_of, Chain}
use Rattle.rules.specs.Atlas.{Item, Shelf, Freed, Atlas, Room, is_empty_of, occupied}

abbrev pub flag : Bool → ℕ
flag true = 1
flag false = 0

-- ---- what each row says

-- an item of the shelf in row `on`, but for its free links
abbrev pub item : ℕ → Kind Item Body
item on = record {
  row = λ i. i.row;
  says = λ prev i next. record { x = i.x; width = i.width; prev = prev; next = next; shelf = on; allocated = flag i.live; generation = i.generation };
}

-- the free links of a row of a free list, and those of a live item
abbrev pub free : Kind ℕ Links
free = record { row = λ r. r; says = λ prev r next. record { prev = prev; next = next } }

abbrev pub no_links : Links
no_links = record { prev = no_row; next = no_row }

abbrev pub shelf : Kind Shelf ShelfRow
shelf = record {
  row = λ s. s.row;
  says = λ prev s next. record {
    x = s.x;
    y = s.y;
    height = s.depth;
    prev = record { 0 = prev };
    next = record { 0 = next };
    first_item = record { 0 = first_row (λ (i : Item). i.row) s.items };
    first_unallocated = record { 0 = first_of s.free };
    is_empty = flag (is_empty_of s.items);
  };
}

-- a freed row, by what the pool makes of it
abbrev pub freed_shelf : Kind ℕ ShelfRow
freed_shelf = record { row = λ r. r; says = λ prev r next. freed_shelf_row (record { 0 = next }) }

abbrev pub freed_item_of : Kind Freed ItemRow
freed_item_of = record { row = λ f. f.row; says = λ prev f next. freed_item_row (record { 0 = next }) f.generation }

-- ---- an atlas in a header and two tables

-- the rows of the items that are live, and of those that are free
abbrev pub live_rows : List Item → List ℕ
live_rows = gather (λ (i : Item). pick i.live (i.row ∷ []) [])

abbrev pub free_rows : List Item → List ℕ
free_rows = gather (λ (i : Item). pick i.live [] (i.row ∷ []))

-- A shelf's items lie in the item table: linked in their order, the free ones in the free list's order, the live ones with no free links.
pub record Holds (I : List ℕ) (s : Shelf) : Type 0 where
  pub in_order : Chain (item s.row) (λ r. body_of (get items I r)) no_row s.items
  pub free_order : Chain free (λ r. links_of (get items I r)) no_row s.free
  pub live_unlinked : (r : ℕ) → r ∈ live_rows s.items → links_of (get items I r) ≡ no_links

unfoldable pub header_of : Atlas → Header
unfolding occupied
header_of a = record {
  limits = a.limits;
  used_shelves = a.rows.shelves.used;
  used_items = a.rows.items.used;
  free_items = record { 0 = first_row (λ (f : Freed). f.row) a.rows.items.freed };
  free_shelves = record { 0 = first_of a.rows.shelves.freed };
  occupied = occupied a.shelves;
}

pub record Stores (h : Header) (S I : List ℕ) (a : Atlas) : Type 0 where
  pub header : h ≡ header_of a
  pub shelf_chain : Chain shelf (get shelves S) no_row a.shelves
  pub shelf_items : Each (Holds I) a.shelves
  pub freed_shelves_lem : Chain freed_shelf (get shelves S) no_row a.rows.shelves.freed
  pub freed_items_lem : Chain freed_item_of (get items I) no_row a.rows.items.freed

-- how many rows the tables have room for
unfoldable pub room_in : List ℕ → List ℕ → Room
room_in S I = record { shelves = rows shelves S; items = rows items I }
