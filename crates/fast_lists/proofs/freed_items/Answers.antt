use Rattle.numbers.specs.Library.{arith}
use native.Mathlib.Nat.{sub-zero}
use Rattle.audit_counts.proofs.CountedDown.{freed_due, due_past}
use Rattle.fast_lists.proofs.freed_items.Goals as goal

pub loop-left-init : goal.loop-left-init
loop-left-init c = rw c.requires.2 (rw sub-zero at (freed_due c.args.h c.args.items.now c.args.rest (omega arith) (omega arith)))

pub loop-left-preserved : goal.loop-left-preserved
loop-left-preserved c =
    due_past c.loop-left.invariant (omega arith) _ c.there-i.ensures (omega arith) (c.is_freed_item.ensures.sound c.if-not-is_freed_item.false)
