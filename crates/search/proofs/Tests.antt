-- What a branch on a call, or on a negated one, tells of what the call tests. Of a negated one: `fails` and `some` where the branch is taken, `holds` and
-- `none` where it is left.
-- Assumes nothing.
use Rattle.std.specs.Prelude.{◌≡◌, ◌≢◌}
use Rattle.numbers.specs.Library.{ℕ, sym, ◌∙◌, Bool, true, false, not, eqb, eqb-true, not-true, not-false}
use borrow.Author.Tests.{eqb-false}
use Rattle.numbers.specs.Prelude.{no_row}

module _ {told test : Bool} (is : told ≡ test) where
  pub fails : not told ≡ true → test ≡ false
  fails e = sym is ∙ not-true told e

  pub holds : not told ≡ false → test ≡ true
  holds e = sym is ∙ not-false told e

-- the test for no row
module _ {told : Bool} {row : ℕ} (is : told ≡ eqb row no_row) where
  pub some : not told ≡ true → row ≢ no_row
  some e = eqb-false row no_row (fails is e)

  pub none : not told ≡ false → row ≡ no_row
  none e = eqb-true row no_row (holds is e)

  -- not negated
  pub is_none : told ≡ true → row ≡ no_row
  is_none e = eqb-true row no_row (sym is ∙ e)

  pub is_some : told ≡ false → row ≢ no_row
  is_some e = eqb-false row no_row (sym is ∙ e)
