use Rattle.numbers.specs.Library.{rules, refl}
use Rattle.rows.specs.Prelude.{item_start}
use Rattle.rows.proofs.item.item_start.Goals as goal

pub overflow_cast-result : goal.overflow_cast-result
unfolding item_start
overflow_cast-result c = search rules

pub overflow_mul-result : goal.overflow_mul-result
unfolding item_start
overflow_mul-result c = search rules

pub returns : goal.returns
unfolding item_start
returns c = refl
