use Rattle.rows.specs.Prelude.{with_width, with_height}
use Rattle.plan.specs.Plan.{told}
use Rattle.plan.proofs.told.Goals as goal

pub returns : goal.returns
unfolding told with_width with_height
returns c = rw c.live_of_rows.ensures
