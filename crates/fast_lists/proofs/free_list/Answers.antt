use Rattle.numbers.specs.Library.{arith}
use native.Mathlib.Nat.{sub-zero}
use Rattle.audit_counts.proofs.CountedDown.{free_due, due_past}
use Rattle.fast_lists.proofs.free_list.Goals as goal

pub loop-left-init : goal.loop-left-init
loop-left-init c = rw sub-zero at (free_due c.args.h c.args.items.now c.args.on c.args.first c.args.free (omega arith) (omega arith))

pub loop-left-preserved : goal.loop-left-preserved
loop-left-preserved c =
    let free = c.free_of.ensures.sound c.if-not-free_of.false in
    due_past c.loop-left.invariant (omega arith) _ c.there-i.ensures (omega arith)
    (record { back = omega arith; named = free.named; is_free = free.is_free })
