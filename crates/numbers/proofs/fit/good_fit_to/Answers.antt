use Rattle.numbers.specs.Library.{arith, rules}
use Rattle.numbers.specs.Prelude.{good_fit_to}
use Rattle.numbers.proofs.fit.good_fit_to.Goals as goal

pub overflow_add-half_more : goal.overflow_add-half_more
unfolding good_fit_to
overflow_add-half_more c = search rules

pub overflow_cast-t-3 : goal.overflow_cast-t-3
unfolding good_fit_to
overflow_cast-t-3 c = search rules

pub overflow_cast-result : goal.overflow_cast-result
unfolding good_fit_to
overflow_cast-result c = search rules

pub returns-then-half_more : goal.returns-then-half_more
unfolding good_fit_to
returns-then-half_more c = omega arith

pub returns : goal.returns
unfolding good_fit_to
returns c = omega arith
