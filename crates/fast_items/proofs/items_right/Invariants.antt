-- `items_right`: at each turn a run of live items is passed, and the item that follows it is read.
use Rattle.fast_items.proofs.Turns.{At, left}
use Rattle.fast_items.proofs.items_right.Given as goal

abbrev pub invariant-loop-p : goal.invariant-loop-p
invariant-loop-p l = At l.h l.items l.on l.s l.met l.all l.free l.gap l.p

abbrev pub decreases-loop-p : goal.decreases-loop-p
decreases-loop-p l = left l.h.used_items l.p
