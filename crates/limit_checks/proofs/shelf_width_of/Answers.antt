use Rattle.std.specs.Prelude.{◌/◌}
use Rattle.numbers.specs.Library.{refl, mod-zero, arith}
use native.Mathlib.Nat.{div-zero, mod-le}
use Rattle.numbers.specs.Prelude.{shelf_width_of}
use Rattle.limit_checks.proofs.shelf_width_of.Goals as goal

pub returns-then-columns-eq0 : goal.returns-then-columns-eq0
unfolding shelf_width_of
returns-then-columns-eq0 c = rw (c.if-columns-eq0.true, div-zero) (omega arith)

pub returns-then-step-eq0 : goal.returns-then-step-eq0
unfolding shelf_width_of
returns-then-step-eq0 c = rw (c.if-step-eq0.true, mod-zero) (omega arith)

pub overflow_sub-result : goal.overflow_sub-result
overflow_sub-result c = mod-le (c.args.width / c.args.columns) c.args.step

pub returns : goal.returns
unfolding shelf_width_of
returns c = refl
