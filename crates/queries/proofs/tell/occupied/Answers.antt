-- `occupied`: 3, then the header's total.
use Rattle.queries.proofs.Cases.{occupied_3, occupied_told}
use Rattle.numbers.specs.Library.{ap, not}
use Rattle.queries.proofs.tell.occupied.Goals as goal

pub returns-then-not-passes : goal.returns-then-not-passes
returns-then-not-passes c = occupied_3 _ _ _ c.passes.ensures (ap not c.if-not-passes.true)

pub returns : goal.returns
returns c = occupied_told _ _ _ c.passes.ensures (ap not c.if-not-passes.false)
