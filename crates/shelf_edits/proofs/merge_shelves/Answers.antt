use Rattle.shelf_edits.specs.ShelfEdits.{merge_shelves}
use Rattle.shelf_edits.proofs.merge_shelves.Goals as goal

pub returns : goal.returns
unfolding merge_shelves
returns c = rw (c.remove_shelf.ensures.0, c.remove_shelf.ensures.1, c.remove_shelf.ensures.2, c.join_shelves.ensures)
