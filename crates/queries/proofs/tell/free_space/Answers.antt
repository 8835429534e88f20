-- `free_space`: 3, then what the header leaves of W x H.
use Rattle.queries.proofs.Cases.{free_3, free_told}
use Rattle.numbers.specs.Library.{ap, not}
use Rattle.queries.proofs.tell.free_space.Goals as goal

pub returns-then-not-passes : goal.returns-then-not-passes
returns-then-not-passes c = free_3 _ _ _ c.passes.ensures (ap not c.if-not-passes.true)

pub returns : goal.returns
returns c = free_told _ _ _ c.passes.ensures (ap not c.if-not-passes.false) _ c.space_left.ensures
