use Rattle.numbers.specs.Library.{eq-eqb, ne_eqb}
use Rattle.search.specs.Search.{shelf_is_empty, is_bad_fit}
use Rattle.search.proofs.is_bad_fit.Goals as goal

pub returns-then-s-ne1 : goal.returns-then-s-ne1
unfolding is_bad_fit shelf_is_empty
returns-then-s-ne1 c = rw (ne_eqb _ _ c.if-s-ne1.true)

pub returns-else-s-ne1 : goal.returns-else-s-ne1
unfolding is_bad_fit shelf_is_empty
returns-else-s-ne1 c = rw (eq-eqb _ _ c.if-s-ne1.false)
