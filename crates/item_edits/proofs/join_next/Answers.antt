use Rattle.rows.specs.Prelude.{rows-change}
use Rattle.item_edits.specs.ItemEdits.{join_next}
use Rattle.wrap.specs.Wrap.{plus16}
use Rattle.item_edits.proofs.join_next.Goals as goal

pub linked_item-n-requires : goal.linked_item-n-requires
unfolding join_next plus16
linked_item-n-requires c = rw c.linked_item-v.ensures c.requires.1.next

pub set_prev-requires : goal.set_prev-requires
unfolding join_next plus16
set_prev-requires c = rw (c.set_span.ensures, rows-change, c.linked_item-n.ensures, c.linked_item-v.ensures) c.requires.2.next

pub returns : goal.returns
unfolding join_next plus16
returns c = (rw (c.remove_item.ensures.0, c.linked_item-v.ensures), rw (c.remove_item.ensures.1, c.set_prev.ensures, c.set_span.ensures, c.linked_item-n.ensures, c.linked_item-v.ensures))
