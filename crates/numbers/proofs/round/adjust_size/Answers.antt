use Rattle.numbers.specs.Library.{sym, mod-lt, arith}
use Rattle.numbers.specs.Prelude.{round_none, round_exact, round_over}
use Rattle.numbers.proofs.round.adjust_size.Goals as goal

pub returns-then-alignment-eq0 : goal.returns-then-alignment-eq0
returns-then-alignment-eq0 c = rw c.if-alignment-eq0.true (sym (round_none _))

pub returns-then-over-eq0 : goal.returns-then-over-eq0
returns-then-over-eq0 c = sym (round_exact _ _ c.if-over-eq0.true)

pub overflow_sub-result : goal.overflow_sub-result
overflow_sub-result c = omega (arith, mod-lt c.args.size {m = c.args.alignment} (omega arith))

pub returns : goal.returns
returns c = sym (round_over _ _ c.if-over-eq0.false)
