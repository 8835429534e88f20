use Rattle.rows.specs.Prelude.{rows-put, rows-change}
use Rattle.pool.specs.Pool.{added_item, add_item}
use Rattle.item_edits.specs.ItemEdits.{split_item}
use Rattle.item_edits.proofs.split_item.Goals as goal

pub set_span-requires : goal.set_span-requires
unfolding split_item added_item add_item
set_span-requires c = rw (c.add_item-added.ensures.1, rows-put) c.requires.0

pub set_prev-requires : goal.set_prev-requires
unfolding split_item added_item add_item
set_prev-requires c = rw (c.set_span.ensures, rows-change, c.add_item-added.ensures.1, rows-put) c.requires.1.next

pub returns : goal.returns
unfolding split_item added_item add_item
returns c = (c.add_item-added.ensures.0, rw (c.set_prev.ensures, c.set_span.ensures, c.add_item-added.ensures.0, c.add_item-added.ensures.1, c.rest_of.ensures))
