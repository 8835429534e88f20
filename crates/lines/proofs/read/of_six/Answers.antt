use Rattle.numbers.specs.Library.{arith, ne_eqb}
use Rattle.lines.specs.Line.{of_six}
use Rattle.lines.proofs.read.of_six.Goals as goal

pub returns-in-110 : goal.returns-in-110
unfolding of_six
returns-in-110 c = rw c.in-110.is

pub returns-in_default : goal.returns-in_default
unfolding of_six
returns-in_default c = simp (ne_eqb c.args.letter 110 (λ e. omega arith))
