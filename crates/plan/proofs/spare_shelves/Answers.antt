use Rattle.numbers.specs.Library.{arith}
use Rattle.plan.specs.Spare.{spare_shelves, few_shelves}
use Rattle.plan.proofs.spare_shelves.Goals as goal

pub overflow_add-result : goal.overflow_add-result
unfolding spare_shelves
overflow_add-result c = omega (arith, few_shelves _ _ c.freed_shelves.ensures, c.unused.ensures)

pub returns : goal.returns
unfolding spare_shelves
returns c = rw (c.freed_shelves.ensures, c.unused.ensures, c.capacity.ensures)
