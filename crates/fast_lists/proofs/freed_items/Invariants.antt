-- `freed_items` decides whether the freed item rows are right, and so many.
use Rattle.audit_counts.proofs.CountedDown.{DueFreed}
use Rattle.fast_lists.proofs.freed_items.Given as goal

abbrev pub invariant-loop-left : goal.invariant-loop-left
invariant-loop-left l = DueFreed l.h l.items l.rest l.row l.left

abbrev pub decreases-loop-left : goal.decreases-loop-left
decreases-loop-left l = l.left
