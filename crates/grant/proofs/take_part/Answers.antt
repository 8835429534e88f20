use Rattle.numbers.specs.Library.{inl}
use Rattle.pool.specs.Pool.{added_item}
use Rattle.item_edits.specs.ItemEdits.{rows-split_item, rows-relist}
use Rattle.grant.specs.Grant.{take_part_items, take_part}
use Rattle.grant.proofs.take_part.Goals as goal

pub split_item-added-requires : goal.split_item-added-requires
unfolding take_part take_part_items added_item
split_item-added-requires c = (inl c.requires.item, c.requires.links)

pub relist-requires : goal.relist-requires
unfolding take_part take_part_items added_item
relist-requires c = rw (c.split_item-added.ensures.1, rows-split_item) c.requires.links

pub mark_live-requires : goal.mark_live-requires
unfolding take_part take_part_items added_item
mark_live-requires c = rw (c.relist.ensures, rows-relist, c.split_item-added.ensures.1, rows-split_item) (inl c.requires.item)

pub use_shelf-requires : goal.use_shelf-requires
unfolding take_part take_part_items added_item
use_shelf-requires c = c.requires.shelf

pub returns-clause-is : goal.returns-clause-is
unfolding take_part take_part_items added_item
returns-clause-is c = rw (c.use_shelf.ensures, c.mark_live.ensures, c.relist.ensures, c.split_item-added.ensures.0, c.split_item-added.ensures.1)
