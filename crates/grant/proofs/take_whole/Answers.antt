use Rattle.numbers.specs.Library.{inl}
use Rattle.item_edits.specs.ItemEdits.{rows-unlist_row}
use Rattle.grant.specs.Grant.{take_whole_items, take_whole}
use Rattle.grant.proofs.take_whole.Goals as goal

pub unlist_row-requires : goal.unlist_row-requires
unfolding take_whole take_whole_items
unlist_row-requires c = c.requires.links

pub mark_live-requires : goal.mark_live-requires
unfolding take_whole take_whole_items
mark_live-requires c = rw (c.unlist_row.ensures, rows-unlist_row) (inl c.requires.item)

pub use_shelf-requires : goal.use_shelf-requires
unfolding take_whole take_whole_items
use_shelf-requires c = c.requires.shelf

pub returns-clause-is : goal.returns-clause-is
unfolding take_whole take_whole_items
returns-clause-is c = rw (c.use_shelf.ensures, c.mark_live.ensures, c.unlist_row.ensures)
