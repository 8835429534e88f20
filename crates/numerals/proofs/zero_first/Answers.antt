use Rattle.numbers.specs.Library.{sym, ◌∙◌, length, le-ltb}
use Rattle.numerals.proofs.Numerals.{zero_long, zero_short}
use Rattle.numerals.proofs.zero_first.Goals as goal

pub returns-then-w-gt1 : goal.returns-then-w-gt1
returns-then-w-gt1 c = sym (zero_long c.args.w.now c.if-w-gt1.true)

pub returns-else-w-gt1 : goal.returns-else-w-gt1
returns-else-w-gt1 c = le-ltb 1 (length c.args.w.now) c.if-w-gt1.false ∙ sym (zero_short c.args.w.now c.if-w-gt1.false)
