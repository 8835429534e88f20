use Rattle.numbers.specs.Library.{refl}
use Rattle.rows.specs.Prelude.{with_occupied}
use Rattle.merge.specs.Merge.{with_area_removed}
use Rattle.wrap.specs.Wrap.{minus32}
use Rattle.merge.proofs.vacate.Goals as goal

pub returns : goal.returns
unfolding with_occupied with_area_removed minus32
returns c = refl
