-- The item table: what a row holds, and how it stands in the table. The width of a row is said here, and nowhere above.
-- Assumes nothing.
use Rattle.std.specs.Prelude.{◌≡◌, ◌∷◌, ◌*◌}
use Rattle.numbers.specs.Library.{refl, List, [], ℕ, lit<, get_or, set}
use Rattle.numbers.specs.declared.{index.ItemIndex.ItemIndex, index.ShelfIndex.ShelfIndex}
use Rattle.rows.specs.declared.item.ItemRow.{ItemRow}
use Rattle.rows.specs.Part.{each_all}
use Rattle.rows.specs.Row.{Shape, rows, get, put}
use Rattle.rows.specs.Change.{change}

-- a row's nine numbers, in the source's order, and the row of nine numbers
abbrev pub numbers_of : ItemRow → List ℕ
numbers_of v =
    v.x ∷ v.width ∷ v.prev.0 ∷ v.next.0 ∷ v.prev_unallocated.0 ∷ v.next_unallocated.0
    ∷ v.shelf.0 ∷ v.allocated ∷ v.generation ∷ []

abbrev pub item_of : List ℕ → ItemRow
item_of r = record {
  x = get_or r 0 0;
  width = get_or r 1 0;
  prev = record { 0 = get_or r 2 0 };
  next = record { 0 = get_or r 3 0 };
  prev_unallocated = record { 0 = get_or r 4 0 };
  next_unallocated = record { 0 = get_or r 5 0 };
  shelf = record { 0 = get_or r 6 0 };
  allocated = get_or r 7 0;
  generation = get_or r 8 0;
}

-- a row of zeros
abbrev pub zero_item : ItemRow
zero_item = item_of []

unfoldable pub items : Shape ItemRow
items = record {
  width = 9;
  some = lit< tt;
  numbers = numbers_of;
  value = item_of;
  long = λ a. refl;
  back = λ a. refl;
  forth = each_all 9;
}

pub nine_numbers : items.width ≡ 9
unfolding items
nine_numbers = refl

-- where the numbers of a row begin
unfoldable pub item_start : ℕ → ℕ
item_start at = at * 9

-- how many rows a table has, the row at an index, and the table with another row there or with that row changed
abbrev pub item_capacity : List ℕ → ℕ
item_capacity l = rows items l

abbrev pub item_at : List ℕ → ItemIndex → ItemRow
item_at l at = get items l at.0

abbrev pub put_item : List ℕ → ItemIndex → ItemRow → List ℕ
put_item l at v = put items l at.0 v

abbrev pub change_item : List ℕ → ItemIndex → (ItemRow → ItemRow) → List ℕ
change_item l at f = change items l at.0 f

-- a row with one of its numbers replaced
abbrev replaced : ℕ → ℕ → ItemRow → ItemRow
replaced place n v = item_of (set (numbers_of v) place n)

unfoldable pub with_item_x : ℕ → ItemRow → ItemRow
with_item_x x v = replaced 0 x v

unfoldable pub with_width : ℕ → ItemRow → ItemRow
with_width width v = replaced 1 width v

unfoldable pub with_item_prev : ItemIndex → ItemRow → ItemRow
with_item_prev prev v = replaced 2 prev.0 v

unfoldable pub with_item_next : ItemIndex → ItemRow → ItemRow
with_item_next next v = replaced 3 next.0 v

unfoldable pub with_prev_free : ItemIndex → ItemRow → ItemRow
with_prev_free prev v = replaced 4 prev.0 v

unfoldable pub with_next_free : ItemIndex → ItemRow → ItemRow
with_next_free next v = replaced 5 next.0 v

unfoldable pub with_shelf : ShelfIndex → ItemRow → ItemRow
with_shelf shelf v = replaced 6 shelf.0 v

unfoldable pub with_allocated : ℕ → ItemRow → ItemRow
with_allocated flag v = replaced 7 flag v

unfoldable pub with_generation : ℕ → ItemRow → ItemRow
with_generation generation v = replaced 8 generation v
