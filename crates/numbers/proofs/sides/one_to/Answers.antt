use Rattle.numbers.specs.Library.{arith, le-leb, lt-leb}
use Rattle.numbers.specs.Prelude.{one_to}
use Rattle.numbers.proofs.sides.one_to.Goals as goal

pub returns-then-n-lt1 : goal.returns-then-n-lt1
unfolding one_to
returns-then-n-lt1 c = rw (lt-leb 1 c.args.n (omega arith))

pub returns : goal.returns
unfolding one_to
returns c = rw (le-leb 1 c.args.n (omega arith))
