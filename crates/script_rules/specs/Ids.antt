-- The row and generation of a line, together. Assumes nothing.
use Rattle.std.specs.Prelude.{◌≡◌, Option, Some, None}
use Rattle.numbers.specs.Library.{ℕ, ap, ◌∙◌, ℤ}
use Rattle.lines.specs.Ids.{row_of}
use Rattle.script_rules.specs.declared.ids.Id.{Id}

unfoldable pub both_of : Option ℕ → Option ℕ → Option Id
both_of (Some row) (Some generation) = Some (record { row = row; generation = generation })
both_of (Some row) None = None
both_of None generation = None

-- "A row or generation outside 0 to 65535"
unfoldable pub id_of : ℤ → ℤ → Option Id
unfolding both_of
id_of row generation = both_of (row_of row) (row_of generation)

-- ---- laws

pub id_no_row : (row generation : ℤ) → row_of row ≡ None → id_of row generation ≡ None
unfolding id_of both_of
id_no_row row generation e = ap (λ (n : Option ℕ). both_of n (row_of generation)) e

pub id_no_generation : (row generation : ℤ) {r : ℕ} → row_of row ≡ Some r → row_of generation ≡ None → id_of row generation ≡ None
unfolding id_of both_of
id_no_generation row generation {r} e f = ap (λ (n : Option ℕ). both_of n (row_of generation)) e ∙ ap (both_of (Some r)) f

pub id_both : (row generation : ℤ) {r g : ℕ} → row_of row ≡ Some r → row_of generation ≡ Some g → id_of row generation ≡ Some (record { row = r; generation = g })
unfolding id_of both_of
id_both row generation {r} e f = ap (λ (n : Option ℕ). both_of n (row_of generation)) e ∙ ap (both_of (Some r)) f
