use Rattle.numbers.specs.Library.{arith, ne_eqb}
use Rattle.lines.specs.Line.{of_none}
use Rattle.lines.proofs.read.of_none.Goals as goal

pub returns-in-115 : goal.returns-in-115
unfolding of_none
returns-in-115 c = rw c.in-115.is

pub returns-in-108 : goal.returns-in-108
unfolding of_none
returns-in-108 c = rw c.in-108.is

pub returns-in-99 : goal.returns-in-99
unfolding of_none
returns-in-99 c = rw c.in-99.is

pub returns-in_default : goal.returns-in_default
unfolding of_none
returns-in_default c =
    let l = c.args.letter in
    simp (ne_eqb l 115 (λ e. omega arith), ne_eqb l 108 (λ e. omega arith), ne_eqb l 99 (λ e. omega arith))
