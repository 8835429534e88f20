use Rattle.numbers.specs.Library.{arith}
use Rattle.plan.specs.Spare.{freed_shelves}
use Rattle.plan.proofs.freed_shelves.Goals as goal

pub returns : goal.returns
unfolding freed_shelves
returns c = rw (← c.is_none.ensures) (grind (arith, c.from.ensures))
