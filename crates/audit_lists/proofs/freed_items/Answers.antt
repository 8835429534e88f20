use Rattle.numbers.specs.Library.{arith}
use Rattle.audit_counts.proofs.ListTurns.{freed_items_begin, past_row}
use Rattle.audit_lists.proofs.freed_items.Goals as goal

pub loop-count-init : goal.loop-count-init
loop-count-init c = freed_items_begin _ _ (omega arith)

pub loop-count-preserved : goal.loop-count-preserved
loop-count-preserved c =
    past_row c.loop-count.invariant c.if-cur.false _ c.there-i.ensures (omega arith) (omega arith) (c.is_freed_item.ensures.sound c.if-not-is_freed_item.false)
