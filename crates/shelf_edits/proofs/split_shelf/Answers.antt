use Rattle.pool.specs.Pool.{added_item, added_shelf}
use Rattle.shelf_edits.specs.ShelfEdits.{split_shelf_table, split_shelf}
use Rattle.shelf_edits.proofs.split_shelf.Goals as goal

pub returns-clause-is : goal.returns-clause-is
unfolding added_item added_shelf split_shelf_table split_shelf
returns-clause-is c =
    rw (
      c.set_shelf_prev.ensures,
      c.set_reach.ensures,
      c.add_item-taken.ensures.0,
      c.add_item-taken.ensures.1,
      c.lone_item-row.ensures,
      c.add_shelf-added.ensures.0,
      c.add_shelf-added.ensures.1,
      c.lower_of.ensures,
      c.next_item-item.ensures,
    )
