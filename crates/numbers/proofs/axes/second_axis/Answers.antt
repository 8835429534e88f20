use Rattle.numbers.specs.Library.{sym, eq-eqb, ne_eqb}
use Rattle.numbers.specs.Prelude.{pick_yes, pick_no, second_axis}
use Rattle.numbers.proofs.axes.second_axis.Goals as goal

pub returns-then-vertical-eq1 : goal.returns-then-vertical-eq1
unfolding second_axis
returns-then-vertical-eq1 c = sym (pick_yes _ _ (eq-eqb _ _ c.if-vertical-eq1.true))

pub returns : goal.returns
unfolding second_axis
returns c = sym (pick_no _ _ (ne_eqb _ _ c.if-vertical-eq1.false))
