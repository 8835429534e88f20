-- Rows taken into use and given back. The freed rows of a table are a chain by `next`, the latest freed first; the header holds its head.
-- Assumes nothing.
use Rattle.std.specs.Prelude.{◌≡◌, ◌+◌, ◌%◌, ◌^◌}
use Rattle.numbers.specs.Library.{List, ℕ, eqb}
use Rattle.numbers.specs.Prelude.{pick, no_row}
use Rattle.numbers.specs.declared.{index.ItemIndex.ItemIndex, index.ShelfIndex.ShelfIndex}
use Rattle.rows.specs.declared.{header.Header.Header, item.ItemRow.ItemRow, shelf.ShelfRow.ShelfRow}
use Rattle.pool.specs.declared.Added.{Added}
use Rattle.rows.specs.Prelude.{with_used_items, with_used_shelves, with_free_items, with_free_shelves, zero_item, item_at, put_item, with_item_next, with_generation}
use Rattle.rows.specs.Prelude.{zero_shelf, shelf_at_of, put_shelf, with_shelf_next}

-- ---- either table: by the head of its freed chain and its count of used rows

-- one more, wrapping from 65535 to 0
unfoldable pub one_more_of : ℕ → ℕ
one_more_of n = (n + 1) % 2 ^ 16

-- the row that is taken: the latest freed row goes first, else the next unused one
unfoldable pub new_row : ℕ → ℕ → ℕ
new_row head used = pick (eqb head no_row) used head

-- the head and the count after it; `next` is the row that the head names as next
unfoldable pub head_after : ℕ → ℕ → ℕ
head_after head next = pick (eqb head no_row) head next

unfoldable pub used_after : ℕ → ℕ → ℕ
used_after head used = pick (eqb head no_row) (one_more_of used) used

-- ---- items

-- the row for the next new item, and its generation: a freed row's old one plus one, or 1
unfoldable pub new_item : Header → ItemIndex
new_item h = record { 0 = new_row h.free_items.0 h.used_items }

unfoldable pub new_generation : List ℕ → Header → ℕ
new_generation l h = pick (eqb h.free_items.0 no_row) 1 (one_more_of (item_at l h.free_items).generation)

-- the table and the header once an item has that row
unfoldable pub add_item : List ℕ → Header → ItemRow → List ℕ
add_item l h v = put_item l (new_item h) (with_generation (new_generation l h) v)

unfoldable pub item_taken : List ℕ → Header → Header
item_taken l h =
    with_used_items (used_after h.free_items.0 h.used_items)
    (with_free_items (record { 0 = head_after h.free_items.0 (item_at l h.free_items).next.0 }) h)

unfoldable pub added_item : List ℕ → Header → Added ItemIndex
added_item l h = record { idx = new_item h; header = item_taken l h }

-- a freed row holds zero but for next and generation; it becomes the latest freed one
unfoldable pub freed_item_row : ItemIndex → ℕ → ItemRow
freed_item_row next generation = with_item_next next (with_generation generation zero_item)

abbrev pub FreedItem : ItemRow → Type 0
FreedItem v = v ≡ freed_item_row v.next v.generation

unfoldable pub remove_item : List ℕ → Header → ItemIndex → List ℕ
remove_item l h idx = put_item l idx (freed_item_row h.free_items (item_at l idx).generation)

unfoldable pub item_freed : Header → ItemIndex → Header
item_freed h idx = with_free_items idx h

-- ---- shelves, which have no generation

unfoldable pub new_shelf : Header → ShelfIndex
new_shelf h = record { 0 = new_row h.free_shelves.0 h.used_shelves }

unfoldable pub add_shelf : List ℕ → Header → ShelfRow → List ℕ
add_shelf l h v = put_shelf l (new_shelf h) v

unfoldable pub shelf_taken : List ℕ → Header → Header
shelf_taken l h =
    with_used_shelves (used_after h.free_shelves.0 h.used_shelves)
    (with_free_shelves (record { 0 = head_after h.free_shelves.0 (shelf_at_of l h.free_shelves).next.0 }) h)

unfoldable pub added_shelf : List ℕ → Header → Added ShelfIndex
added_shelf l h = record { idx = new_shelf h; header = shelf_taken l h }

unfoldable pub freed_shelf_row : ShelfIndex → ShelfRow
freed_shelf_row next = with_shelf_next next zero_shelf

abbrev pub FreedShelf : ShelfRow → Type 0
FreedShelf v = v ≡ freed_shelf_row v.next

-- a shelf's item row is freed, the first one that it names, then its shelf row
unfoldable pub remove_shelf : List ℕ → Header → ShelfIndex → List ℕ
remove_shelf l h idx = put_shelf l idx (freed_shelf_row h.free_shelves)

unfoldable pub remove_shelf_item : List ℕ → List ℕ → Header → ShelfIndex → List ℕ
remove_shelf_item shelves items h idx = remove_item items h (shelf_at_of shelves idx).first_item

unfoldable pub shelf_freed : List ℕ → Header → ShelfIndex → Header
shelf_freed l h idx = with_free_shelves idx (item_freed h (shelf_at_of l idx).first_item)
