use Rattle.rows.specs.Prelude.{with_free_shelves, with_shelf_next}
use Rattle.pool.specs.Pool.{shelf_freed, freed_shelf_row, remove_shelf, remove_shelf_item}
use Rattle.pool.proofs.remove_shelf.Goals as goal

pub returns : goal.returns
unfolding shelf_freed remove_shelf remove_shelf_item freed_shelf_row with_free_shelves with_shelf_next
returns c = (
  rw (c.remove_item-header.ensures.0, c.get-old.ensures),
  rw (c.put.ensures, c.zero-v.ensures),
  rw (c.remove_item-header.ensures.1, c.get-old.ensures),
)
