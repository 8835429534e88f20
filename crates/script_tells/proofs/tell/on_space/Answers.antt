-- `on_space`: 3, then the two totals.
use Rattle.script_tells.proofs.Told.{space_3, space_told}
use Rattle.numbers.specs.Library.{ap, not}
use Rattle.script_tells.proofs.tell.on_space.Goals as goal

pub returns-then-not-passes : goal.returns-then-not-passes
returns-then-not-passes c = space_3 _ _ _ c.passes.ensures (ap not c.if-not-passes.true)

pub returns : goal.returns
returns c = space_told _ _ _ c.passes.ensures (ap not c.if-not-passes.false) _ c.space_left.ensures
