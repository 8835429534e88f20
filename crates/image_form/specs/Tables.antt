-- The first rows of a table, taken out and stored. Assumes nothing.
use Rattle.std.specs.Prelude.{◌++◌, ◌∷◌}
use Rattle.numbers.specs.Library.{ℕ, zero, suc, List, []}
use Rattle.rows.specs.Prelude.{Shape, get, put}

module _ {A : Type 0} (s : Shape A) where
  -- the first n rows of a table, by rising row
  unfoldable pub first_rows_of : List ℕ → ℕ → List A
  first_rows_of l zero = []
  first_rows_of l (suc n) = first_rows_of l n ++ (get s l n ∷ [])

  -- a table with these rows from row i on; the rest is unchanged
  unfoldable pub stored_from : ℕ → List A → List ℕ → List ℕ
  stored_from i [] l = l
  stored_from i (r ∷ rs) l = stored_from (suc i) rs (put s l i r)
