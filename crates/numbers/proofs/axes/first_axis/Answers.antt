use Rattle.numbers.specs.Library.{sym, eq-eqb, ne_eqb}
use Rattle.numbers.specs.Prelude.{pick_yes, pick_no, first_axis}
use Rattle.numbers.proofs.axes.first_axis.Goals as goal

pub returns-then-vertical-eq1 : goal.returns-then-vertical-eq1
unfolding first_axis
returns-then-vertical-eq1 c = sym (pick_yes _ _ (eq-eqb _ _ c.if-vertical-eq1.true))

pub returns : goal.returns
unfolding first_axis
returns c = sym (pick_no _ _ (ne_eqb _ _ c.if-vertical-eq1.false))
