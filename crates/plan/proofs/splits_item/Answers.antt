use Rattle.plan.specs.Plan.{splits_item}
use Rattle.plan.proofs.splits_item.Goals as goal

pub returns : goal.returns
unfolding splits_item
returns c = rw c.splits_item.ensures
