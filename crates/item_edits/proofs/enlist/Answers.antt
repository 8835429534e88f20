use Rattle.rows.specs.Prelude.{rows-change}
use Rattle.item_edits.specs.ItemEdits.{enlist}
use Rattle.item_edits.proofs.enlist.Goals as goal

pub set_links-requires : goal.set_links-requires
unfolding enlist
set_links-requires c = rw (c.set_prev_unallocated.ensures, rows-change) c.requires.1

pub returns : goal.returns
unfolding enlist
returns c = rw (c.set_links.ensures, c.set_prev_unallocated.ensures)
