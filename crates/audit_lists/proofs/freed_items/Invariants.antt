-- `freed_items` decides whether the freed item rows are right, and counts them.
use Rattle.std.specs.Prelude.{◌-◌}
use Rattle.audit_counts.proofs.ListTurns.{AtFreedItem}
use Rattle.audit_lists.proofs.freed_items.Given as goal

abbrev pub invariant-loop-count : goal.invariant-loop-count
invariant-loop-count l = AtFreedItem l.h l.items l.cur (l.h.used_items - l.count)
