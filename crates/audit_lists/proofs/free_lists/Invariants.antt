-- `free_lists` decides whether all the free lists are right, and counts them.
use Rattle.std.specs.Prelude.{◌-◌}
use Rattle.audit_counts.proofs.TotalTurns.{AtLists}
use Rattle.audit_lists.proofs.free_lists.Given as goal

abbrev pub invariant-loop : goal.invariant-loop
invariant-loop l = AtLists l.h l.shelves l.items l.cur (l.h.used_shelves - l.counter) l.count
