use Rattle.numbers.specs.Library.{arith, ne_eqb, to_z-of_z}
use Rattle.lines.specs.Line.{of_two}
use Rattle.lines.proofs.read.of_two.Goals as goal

pub returns-in-97 : goal.returns-in-97
unfolding of_two
returns-in-97 c = simp (c.in-97.is, to_z-of_z c.ranges.x, to_z-of_z c.ranges.y)

pub returns-in-114 : goal.returns-in-114
unfolding of_two
returns-in-114 c = simp (c.in-114.is, to_z-of_z c.ranges.x, to_z-of_z c.ranges.y)

pub returns-in-103 : goal.returns-in-103
unfolding of_two
returns-in-103 c = simp (c.in-103.is, to_z-of_z c.ranges.x, to_z-of_z c.ranges.y)

pub returns-in_default : goal.returns-in_default
unfolding of_two
returns-in_default c =
    let l = c.args.letter in
    simp (ne_eqb l 97 (λ e. omega arith), ne_eqb l 114 (λ e. omega arith), ne_eqb l 103 (λ e. omega arith))
