-- `freed_shelves` decides whether the freed shelf rows are right, and counts them.
use Rattle.std.specs.Prelude.{◌-◌}
use Rattle.audit_counts.proofs.ListTurns.{AtFreedShelf}
use Rattle.audit_lists.proofs.freed_shelves.Given as goal

abbrev pub invariant-loop-count : goal.invariant-loop-count
invariant-loop-count l = AtFreedShelf l.h l.shelves l.cur (l.h.used_shelves - l.count)
