use Rattle.numbers.specs.Library.{refl, sym, rules}
use native.Mathlib.Nat.{div-zero}
use Rattle.numbers.specs.Prelude.{columns_of, columns}
use Rattle.limit_checks.proofs.columns.Goals as goal

pub returns-then-l-eq0 : goal.returns-then-l-eq0
unfolding columns_of columns
returns-then-l-eq0 c = rw c.if-l-eq0.true (sym (div-zero c.args.l.width))

pub nonzero_div-result : goal.nonzero_div-result
unfolding columns_of columns
nonzero_div-result c = search rules

pub returns : goal.returns
unfolding columns_of columns
returns c = refl
