-- `free_list` decides whether a free list is right, and counts it.
use Rattle.std.specs.Prelude.{◌-◌}
use Rattle.audit_counts.proofs.ListTurns.{AtFree}
use Rattle.audit_lists.proofs.free_list.Given as goal

abbrev pub invariant-loop-count : goal.invariant-loop-count
invariant-loop-count l = AtFree l.h l.items l.on l.initial.cur l.cur (l.h.used_items - l.count) l.prev
