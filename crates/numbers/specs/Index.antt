-- The rows of the two tables as indices, and the index that names no row. Assumes nothing.
use Rattle.numbers.specs.Library.{ℕ}
use Rattle.numbers.specs.declared.{index.ShelfIndex.ShelfIndex, index.ItemIndex.ItemIndex}

-- no row, in a link
abbrev pub no_row : ℕ
no_row = 65535

-- "at most 65535 rows": so none has the index that names no row
abbrev pub most_rows : ℕ
most_rows = no_row

abbrev pub no_shelf : ShelfIndex
no_shelf = record { 0 = no_row }

abbrev pub no_item : ItemIndex
no_item = record { 0 = no_row }
