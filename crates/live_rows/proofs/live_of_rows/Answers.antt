use Rattle.numbers.specs.Library.{eq-eqb, ne_eqb}
use Rattle.live_rows.specs.Live.{live_of_rows}
use Rattle.numbers.specs.Prelude.{first_axis, second_axis}
use Rattle.wrap.specs.Wrap.{plus16}
use Rattle.live_rows.proofs.live_of_rows.Goals as goal

pub returns-then-h-eq1 : goal.returns-then-h-eq1
unfolding live_of_rows first_axis second_axis plus16
returns-then-h-eq1 c = rw (eq-eqb _ _ c.if-h-eq1.true)

pub returns : goal.returns
unfolding live_of_rows first_axis second_axis plus16
returns c = rw (ne_eqb _ _ c.if-h-eq1.false)
