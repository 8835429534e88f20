use Rattle.rows.specs.Prelude.{with_shelf_x, with_height, with_shelf_prev, with_shelf_next, with_first_item, with_first_free, with_empty}
use Rattle.init.specs.Init.{fresh_shelf_row}
use Rattle.wrap.specs.Wrap.{times16}
use Rattle.init.proofs.fresh_shelf.Goals as goal

pub returns : goal.returns
unfolding with_shelf_x with_height with_shelf_prev with_shelf_next with_first_item with_first_free with_empty fresh_shelf_row times16
returns c = rw (c.shelf_after.ensures, c.shelf_before.ensures)
