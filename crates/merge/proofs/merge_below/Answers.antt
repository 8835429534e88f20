use Rattle.merge.specs.Merge.{merge_below}
use Rattle.merge.proofs.merge_below.Goals as goal

pub returns-then-joins-clause-is : goal.returns-then-joins-clause-is
unfolding merge_below
returns-then-joins-clause-is c = rw (← c.shelf-s.ensures, ← c.joins.ensures, c.if-joins.true) c.merge_shelves-t.ensures

pub returns-else-joins-clause-is : goal.returns-else-joins-clause-is
unfolding merge_below
returns-else-joins-clause-is c = rw (← c.shelf-s.ensures, ← c.joins.ensures, c.if-joins.false)
