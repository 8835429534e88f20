-- The shelf table: what a row holds, and how it stands in the table. The width of a row is said here, and nowhere above.
-- Assumes nothing.
use Rattle.std.specs.Prelude.{◌≡◌, ◌∷◌}
use Rattle.numbers.specs.Library.{refl, List, [], ℕ, lit<, get_or, set}
use Rattle.numbers.specs.declared.{index.ItemIndex.ItemIndex, index.ShelfIndex.ShelfIndex}
use Rattle.rows.specs.declared.shelf.ShelfRow.{ShelfRow}
use Rattle.rows.specs.Part.{each_all}
use Rattle.rows.specs.Row.{Shape, rows, get, put}
use Rattle.rows.specs.Change.{change}

-- a row's eight numbers, in the source's order, and the row of eight numbers
abbrev pub numbers_of : ShelfRow → List ℕ
numbers_of v = v.x ∷ v.y ∷ v.height ∷ v.prev.0 ∷ v.next.0 ∷ v.first_item.0 ∷ v.first_unallocated.0 ∷ v.is_empty ∷ []

abbrev pub shelf_of : List ℕ → ShelfRow
shelf_of r = record {
  x = get_or r 0 0;
  y = get_or r 1 0;
  height = get_or r 2 0;
  prev = record { 0 = get_or r 3 0 };
  next = record { 0 = get_or r 4 0 };
  first_item = record { 0 = get_or r 5 0 };
  first_unallocated = record { 0 = get_or r 6 0 };
  is_empty = get_or r 7 0;
}

-- a row of zeros
abbrev pub zero_shelf : ShelfRow
zero_shelf = shelf_of []

unfoldable pub shelves : Shape ShelfRow
shelves = record {
  width = 8;
  some = lit< tt;
  numbers = numbers_of;
  value = shelf_of;
  long = λ a. refl;
  back = λ a. refl;
  forth = each_all 8;
}

pub eight_numbers : shelves.width ≡ 8
unfolding shelves
eight_numbers = refl

-- how many rows a table has, the row at an index, and the table with another row there or with that row changed
abbrev pub shelf_capacity : List ℕ → ℕ
shelf_capacity l = rows shelves l

abbrev pub shelf_at_of : List ℕ → ShelfIndex → ShelfRow
shelf_at_of l at = get shelves l at.0

abbrev pub put_shelf : List ℕ → ShelfIndex → ShelfRow → List ℕ
put_shelf l at v = put shelves l at.0 v

abbrev pub change_shelf : List ℕ → ShelfIndex → (ShelfRow → ShelfRow) → List ℕ
change_shelf l at f = change shelves l at.0 f

-- a row with one of its numbers replaced
abbrev replaced : ℕ → ℕ → ShelfRow → ShelfRow
replaced place n v = shelf_of (set (numbers_of v) place n)

unfoldable pub with_shelf_x : ℕ → ShelfRow → ShelfRow
with_shelf_x x v = replaced 0 x v

unfoldable pub with_y : ℕ → ShelfRow → ShelfRow
with_y y v = replaced 1 y v

unfoldable pub with_height : ℕ → ShelfRow → ShelfRow
with_height height v = replaced 2 height v

unfoldable pub with_shelf_prev : ShelfIndex → ShelfRow → ShelfRow
with_shelf_prev prev v = replaced 3 prev.0 v

unfoldable pub with_shelf_next : ShelfIndex → ShelfRow → ShelfRow
with_shelf_next next v = replaced 4 next.0 v

unfoldable pub with_first_item : ItemIndex → ShelfRow → ShelfRow
with_first_item first v = replaced 5 first.0 v

unfoldable pub with_first_free : ItemIndex → ShelfRow → ShelfRow
with_first_free first v = replaced 6 first.0 v

unfoldable pub with_empty : ℕ → ShelfRow → ShelfRow
with_empty flag v = replaced 7 flag v
