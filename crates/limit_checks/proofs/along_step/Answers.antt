use Rattle.numbers.specs.Library.{rules}
use Rattle.numbers.specs.Prelude.{along_step}
use Rattle.limit_checks.proofs.along_step.Goals as goal

pub overflow_cast-l : goal.overflow_cast-l
unfolding along_step
overflow_cast-l c = search rules

pub overflow_cast-l-2 : goal.overflow_cast-l-2
unfolding along_step
overflow_cast-l-2 c = search rules

pub first_axis-requires : goal.first_axis-requires
unfolding along_step
first_axis-requires c = search rules

pub returns : goal.returns
unfolding along_step
returns c = c.first_axis.ensures
