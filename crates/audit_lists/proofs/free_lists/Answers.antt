use Rattle.numbers.specs.Library.{arith}
use Rattle.audit_counts.proofs.TotalTurns.{lists_begin, wrong_list, past_list, lists_ended, lists_out}
use Rattle.audit_lists.proofs.free_lists.Goals as goal

pub loop-init : goal.loop-init
loop-init c = lists_begin _ _ _ (omega arith)

pub returns-then-cur : goal.returns-then-cur
returns-then-cur c = lists_ended c.loop.invariant c.if-cur.true

pub returns-in_err-count : goal.returns-in_err-count
returns-in_err-count c = rw c.from_residual.ensures (wrong_list c.loop.invariant c.if-cur.false (omega arith) _ c.get-s.ensures c.in_err-count.ensures)

pub loop-preserved : goal.loop-preserved
loop-preserved c = past_list c.loop.invariant c.if-cur.false (omega arith) _ c.get-s.ensures _ c.in_ok-count.ensures (omega arith)

pub returns : goal.returns
returns c = lists_out c.loop.invariant (omega arith)
