use Rattle.item_edits.specs.ItemEdits.{unlist}
use Rattle.item_edits.proofs.unlist.Goals as goal

pub unlist_row-requires : goal.unlist_row-requires
unfolding unlist
unlist_row-requires c = rw c.linked_item-i.ensures c.requires.1

pub returns : goal.returns
unfolding unlist
returns c = rw (c.unlist_row.ensures, c.linked_item-i.ensures)
