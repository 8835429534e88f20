-- `is_empty`: 3, then whether nothing is occupied.
use Rattle.queries.proofs.Cases.{empty_3, empty_told}
use Rattle.numbers.specs.Library.{ap, not}
use Rattle.queries.proofs.tell.is_empty.Goals as goal

pub returns-then-not-passes : goal.returns-then-not-passes
returns-then-not-passes c = empty_3 _ _ _ c.passes.ensures (ap not c.if-not-passes.true)

pub returns : goal.returns
returns c = empty_told _ _ _ c.passes.ensures (ap not c.if-not-passes.false) _ c.is_vacant.ensures
