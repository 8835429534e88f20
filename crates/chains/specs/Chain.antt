-- How the elements of a list lie in a table along a chain: each has a row, and what stands in that row names the row before and the row after.
-- One definition for the shelf chain, a shelf's items, a shelf's free list and the two chains of freed rows. Assumes nothing.
use Rattle.std.specs.Prelude.{◌≡◌, ◌∷◌}
use Rattle.numbers.specs.Library.{ℕ, List, []}
use Rattle.numbers.specs.Prelude.{no_row}

-- the row of an element, and what that row says of it between the row before and the row after
pub record Kind (E C : Type 0) : Type 0 where
  pub row : E → ℕ
  pub says : ℕ → E → ℕ → C

-- the row of the first element, or no row
abbrev pub first_row : {E : Type 0} → (E → ℕ) → List E → ℕ
first_row row [] = no_row
first_row row (e ∷ rest) = row e

-- the first of these rows, or no row
abbrev pub first_of : List ℕ → ℕ
first_of = first_row (λ r. r)

-- the elements lie in this order in a table that says `at r` in row r
abbrev pub Chain : {E C : Type 0} → Kind E C → (ℕ → C) → ℕ → List E → Type 0
Chain k at prev [] = Unit {0}
Chain k at prev (e ∷ rest) = (at (k.row e) ≡ k.says prev e (first_row k.row rest)) × Chain k at (k.row e) rest
