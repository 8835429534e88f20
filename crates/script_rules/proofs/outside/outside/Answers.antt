-- `outside`: 3, then 8.
use Rattle.script_rules.proofs.Told.{outside_3, outside_8}
use Rattle.numbers.specs.Library.{ap, not}
use Rattle.script_rules.proofs.outside.outside.Goals as goal

pub returns-then-not-passes : goal.returns-then-not-passes
returns-then-not-passes c = outside_3 _ _ _ c.passes.ensures (ap not c.if-not-passes.true)

pub returns : goal.returns
returns c = outside_8 _ _ _ c.passes.ensures (ap not c.if-not-passes.false)
