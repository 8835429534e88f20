-- The header: eleven numbers in document 01's order. Assumes nothing.
use Rattle.std.specs.Prelude.{◌∷◌}
use Rattle.numbers.specs.Library.{List, [], ℕ, get_or, set, drop}
use Rattle.numbers.specs.declared.{index.ItemIndex.ItemIndex, index.ShelfIndex.ShelfIndex, limits.Limits.Limits}
use Rattle.rows.specs.declared.header.Header.{Header}

-- a header's eleven numbers, and the header of eleven numbers
abbrev pub numbers_of : Header → List ℕ
numbers_of h =
    h.limits.width ∷ h.limits.height ∷ h.limits.align_width ∷ h.limits.align_height ∷ h.limits.vertical ∷ h.limits.shelf_width
    ∷ h.used_shelves ∷ h.used_items ∷ h.free_items.0 ∷ h.free_shelves.0 ∷ h.occupied ∷ []

abbrev pub header_of : List ℕ → Header
header_of r = record {
  limits = record {
    width = get_or r 0 0;
    height = get_or r 1 0;
    align_width = get_or r 2 0;
    align_height = get_or r 3 0;
    vertical = get_or r 4 0;
    shelf_width = get_or r 5 0;
  };
  used_shelves = get_or r 6 0;
  used_items = get_or r 7 0;
  free_items = record { 0 = get_or r 8 0 };
  free_shelves = record { 0 = get_or r 9 0 };
  occupied = get_or r 10 0;
}

-- the header of a refused create
abbrev pub zero_header : Header
zero_header = header_of []

-- a header with other limits
unfoldable pub with_limits : Limits → Header → Header
with_limits l h =
    header_of (l.width ∷ l.height ∷ l.align_width ∷ l.align_height ∷ l.vertical ∷ l.shelf_width ∷ drop 6 (numbers_of h))

-- a header with one of its other numbers replaced
abbrev replaced : ℕ → ℕ → Header → Header
replaced place n h = header_of (set (numbers_of h) place n)

unfoldable pub with_used_shelves : ℕ → Header → Header
with_used_shelves n h = replaced 6 n h

unfoldable pub with_used_items : ℕ → Header → Header
with_used_items n h = replaced 7 n h

unfoldable pub with_free_items : ItemIndex → Header → Header
with_free_items head h = replaced 8 head.0 h

unfoldable pub with_free_shelves : ShelfIndex → Header → Header
with_free_shelves head h = replaced 9 head.0 h

unfoldable pub with_occupied : ℕ → Header → Header
with_occupied area h = replaced 10 area h
