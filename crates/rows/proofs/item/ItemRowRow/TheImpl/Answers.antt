use Rattle.rows.specs.Item.{items}
use Rattle.rows.proofs.item.ItemRowRow.TheImpl.Goals as goal

pub zero-tells : goal.zero-tells
unfolding items
zero-tells c = c.ensures
