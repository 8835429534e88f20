use Rattle.numbers.specs.Library.{sym, ◌∙◌, length, le-ltb}
use Rattle.numerals.proofs.Numerals.{minus_some, minus_none}
use Rattle.numerals.proofs.minus_first.Goals as goal

pub returns-then-w-gt0 : goal.returns-then-w-gt0
returns-then-w-gt0 c = sym (minus_some c.args.w.now c.if-w-gt0.true)

pub returns-else-w-gt0 : goal.returns-else-w-gt0
returns-else-w-gt0 c = le-ltb 0 (length c.args.w.now) c.if-w-gt0.false ∙ sym (minus_none c.args.w.now c.if-w-gt0.false)
