use Rattle.numbers.specs.Library.{refl}
use Rattle.rows.specs.Prelude.{with_occupied}
use Rattle.grant.specs.Grant.{with_area_added}
use Rattle.wrap.specs.Wrap.{plus32}
use Rattle.grant.proofs.occupy.Goals as goal

pub returns : goal.returns
unfolding with_occupied with_area_added plus32
returns c = refl
