use Rattle.merge.specs.Merge.{merge_above}
use Rattle.merge.proofs.merge_above.Goals as goal

pub returns-then-joins-clause-is : goal.returns-then-joins-clause-is
unfolding merge_above
returns-then-joins-clause-is c = rw (← c.shelf-s.ensures, ← c.joins.ensures, c.if-joins.true) c.merge_shelves-t.ensures

pub returns-else-joins-clause-is : goal.returns-else-joins-clause-is
unfolding merge_above
returns-else-joins-clause-is c = rw (← c.shelf-s.ensures, ← c.joins.ensures, c.if-joins.false)
