use Rattle.numbers.specs.Library.{eq-eqb, ne_eqb}
use Rattle.search.specs.Search.{shelf_is_empty}
use Rattle.plan.specs.Plan.{splits_shelf}
use Rattle.plan.proofs.splits_shelf.Goals as goal

pub returns-else-s-eq1 : goal.returns-else-s-eq1
unfolding splits_shelf shelf_is_empty
returns-else-s-eq1 c = rw (ne_eqb _ _ c.if-s-eq1.false)

pub returns-then-s-eq1 : goal.returns-then-s-eq1
unfolding splits_shelf shelf_is_empty
returns-then-s-eq1 c = rw (eq-eqb _ _ c.if-s-eq1.true, c.splits_shelf.ensures)
