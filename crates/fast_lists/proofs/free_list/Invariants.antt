-- `free_list` decides whether a free list is right, and of so many rows.
use Rattle.audit_counts.proofs.CountedDown.{DueFree}
use Rattle.fast_lists.proofs.free_list.Given as goal

abbrev pub invariant-loop-left : goal.invariant-loop-left
invariant-loop-left l = DueFree l.h l.items l.on l.first l.free l.cur l.left l.prev

abbrev pub decreases-loop-left : goal.decreases-loop-left
decreases-loop-left l = l.left
