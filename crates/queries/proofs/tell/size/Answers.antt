-- `size`: 3, then width and height as they were given.
use Rattle.queries.proofs.Cases.{size_3, size_upright, size_turned}
use Rattle.numbers.specs.Library.{ap, not}
use Rattle.queries.proofs.tell.size.Goals as goal

pub returns-then-not-passes : goal.returns-then-not-passes
returns-then-not-passes c = size_3 _ _ _ c.passes.ensures (ap not c.if-not-passes.true)

pub returns-then-h-eq1 : goal.returns-then-h-eq1
returns-then-h-eq1 c = size_turned _ _ _ c.passes.ensures (ap not c.if-not-passes.false) c.if-h-eq1.true

pub returns : goal.returns
returns c = size_upright _ _ _ c.passes.ensures (ap not c.if-not-passes.false) c.if-h-eq1.false
