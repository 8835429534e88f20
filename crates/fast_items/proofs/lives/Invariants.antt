-- `lives` passes a live item at each turn: the invariant says so of all the turns before.
use Rattle.std.specs.Prelude.{◌-◌, ◌≤◌}
use Rattle.audit_counts.specs.Fast.{Lives}
use Rattle.fast_items.specs.Walks.{mark_of, Kept}
use Rattle.fast_items.proofs.lives.Given as goal

abbrev pub invariant-loop-p : goal.invariant-loop-p
invariant-loop-p l = (l.p.x ≤ 65535 → Lives l.items l.used l.on (mark_of l.initial.p) (mark_of l.p)) × Kept l.items l.used l.p × (l.initial.p.count ≤ l.p.count) × (l.initial.p.x ≤ l.p.x)

abbrev pub decreases-loop-p : goal.decreases-loop-p
decreases-loop-p l = 131070 - l.p.count
