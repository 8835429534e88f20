use Rattle.numbers.specs.Library.{sym, arith, le-leb, not-true, not-false}
use Rattle.plan.specs.Spare.{count, spare_shelves}
use Rattle.numbers.specs.Library.{ap, not}
use Rattle.plan.proofs.enough_shelves.Goals as goal

pub returns-then-not-split : goal.returns-then-not-split
unfolding count
returns-then-not-split c = let a = c.args in rw (not-true a.split (ap not c.if-not-split.true)) (sym (le-leb 0 (spare_shelves a.h a.shelves.now) (omega arith)))

pub returns-else-not-split : goal.returns-else-not-split
unfolding count
returns-else-not-split c = rw (not-false c.args.split (ap not c.if-not-split.false), c.spare_shelves.ensures)
