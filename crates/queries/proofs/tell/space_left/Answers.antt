-- `space_left`: W x H less what is occupied.
use Rattle.numbers.specs.Library.{arith}
use Rattle.numbers.specs.Prelude.{space_left}
use Rattle.queries.proofs.tell.space_left.Goals as goal

pub returns : goal.returns
unfolding space_left
returns c = omega arith
