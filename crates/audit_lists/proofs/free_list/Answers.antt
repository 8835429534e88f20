use Rattle.numbers.specs.Library.{arith}
use Rattle.audit_counts.proofs.ListTurns.{free_begins, past_row}
use Rattle.audit_lists.proofs.free_list.Goals as goal

pub loop-count-init : goal.loop-count-init
loop-count-init c = free_begins _ _ _ _ (omega arith)

pub loop-count-preserved : goal.loop-count-preserved
loop-count-preserved c =
    past_row c.loop-count.invariant c.if-cur.false _ c.there-i.ensures (omega arith) (omega arith) (c.free_item.ensures.sound c.if-not-free_item.false)
