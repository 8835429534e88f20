use Rattle.rows.specs.Shelf.{shelves}
use Rattle.rows.proofs.shelf.ShelfRowRow.TheImpl.Goals as goal

pub zero-tells : goal.zero-tells
unfolding shelves
zero-tells c = c.ensures
