use Rattle.plan.specs.Plan.{plan_at}
use Rattle.plan.proofs.plan_at.Goals as goal

pub returns : goal.returns
unfolding plan_at
returns c = rw (c.told-live.ensures, c.granted_side-depth.ensures, c.granted_side-width.ensures, c.splits_item-item_split.ensures, c.splits_shelf-shelf_split.ensures, c.there-item_row.ensures, c.there-shelf_row.ensures)
