use Rattle.shelf_edits.specs.ShelfEdits.{join_shelves}
use Rattle.wrap.specs.Wrap.{plus16}
use Rattle.shelf_edits.proofs.join_shelves.Goals as goal

pub returns : goal.returns
unfolding join_shelves plus16
returns c = rw (c.set_shelf_prev.ensures, c.set_reach.ensures, c.get-s.ensures, c.get-a.ensures)
