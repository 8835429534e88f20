use Rattle.rows.specs.Prelude.{rows-change}
use Rattle.item_edits.specs.ItemEdits.{unlist_row}
use Rattle.item_edits.proofs.unlist_row.Goals as goal

pub set_next_unallocated-requires : goal.set_next_unallocated-requires
unfolding unlist_row
set_next_unallocated-requires c = c.requires.prev_free

pub set_prev_unallocated-requires : goal.set_prev_unallocated-requires
unfolding unlist_row
set_prev_unallocated-requires c = rw (c.set_next_unallocated.ensures, rows-change) c.requires.next_free

pub returns : goal.returns
unfolding unlist_row
returns c = rw (c.set_prev_unallocated.ensures, c.set_next_unallocated.ensures)
