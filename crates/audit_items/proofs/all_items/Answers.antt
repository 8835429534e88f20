use Rattle.numbers.specs.Library.{arith}
use Rattle.audit_counts.proofs.TotalTurns.{totals_begin, wrong_items, past_items, totals_ended, totals_out}
use Rattle.audit_items.proofs.all_items.Goals as goal

pub loop-init : goal.loop-init
loop-init c = totals_begin _ _ _ (omega arith)

pub returns-then-cur : goal.returns-then-cur
returns-then-cur c = totals_ended c.loop.invariant c.if-cur.true

pub loop-preserved : goal.loop-preserved
loop-preserved c =
    past_items c.loop.invariant c.if-cur.false (omega arith) _ c.get-s.ensures _ c.in_ok-of.ensures (omega (arith, c.get-s.type_inv)) (omega arith)

pub returns : goal.returns
returns c = totals_out c.loop.invariant (omega arith)

pub returns-in_err-of : goal.returns-in_err-of
returns-in_err-of c = rw c.from_residual.ensures (wrong_items c.loop.invariant c.if-cur.false (omega arith) _ c.get-s.ensures c.in_err-of.ensures)
