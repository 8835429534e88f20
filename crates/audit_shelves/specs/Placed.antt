-- What rule 2 asks of a shelf, in two parts: where it stands, and its flag. Assumes nothing.
use Rattle.std.specs.Prelude.{◌+◌, ◌*◌, ◌≤◌, ◌≡◌, ◌&&◌}
use Rattle.numbers.specs.Library.{ℕ, Bool, false, eqb}
use Rattle.rows.specs.declared.{header.Header.Header, shelf.ShelfRow.ShelfRow}

pub record ShelfPlaced (h : Header) (prev column y : ℕ) (s : ShelfRow) : Type 0 where
  pub back : s.prev.0 ≡ prev
  pub at_column : s.x ≡ column * h.limits.shelf_width
  pub at_depth : s.y ≡ y
  pub some_depth : 1 ≤ s.height
  pub in_column : y + s.height ≤ h.limits.height

-- the flag is what it has to be, and no two empty shelves adjoin
pub record FlagRight (s : ShelfRow) (due : ℕ) (under_empty : Bool) : Type 0 where
  pub flag_is : s.is_empty ≡ due
  pub apart : under_empty && eqb s.is_empty 1 ≡ false
