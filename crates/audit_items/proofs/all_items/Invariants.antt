-- `all_items` decides rule 3 and gives the totals: the invariant says that rule 3 holds exactly when it does of the shelves still to be met, and that the
-- totals so far with theirs are those of all.
use Rattle.std.specs.Prelude.{◌-◌}
use Rattle.audit_counts.proofs.TotalTurns.{AtTotals}
use Rattle.audit_items.proofs.all_items.Given as goal

abbrev pub invariant-loop : goal.invariant-loop
invariant-loop l = AtTotals l.h l.shelves l.items l.cur (l.h.used_shelves - l.counter) l.t
