-- `items_of` decides rule 3 for one shelf, and counts its items: the invariant says that the shelf is right exactly when the rest of its items is, and
-- that the counts so far with those of the rest are the shelf's.
use Rattle.std.specs.Prelude.{◌-◌}
use Rattle.audit_counts.proofs.ItemTurns.{InShelf}
use Rattle.audit_items.proofs.items_of.Given as goal

abbrev pub invariant-loop-cur : goal.invariant-loop-cur
invariant-loop-cur l = InShelf l.h l.items l.on l.s l.cur l.prev l.x l.edge l.free l.count l.gap l.stray

abbrev pub decreases-loop-cur : goal.decreases-loop-cur
decreases-loop-cur l = 131070 - l.count
