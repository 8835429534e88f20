-- `each_aligned`: the rows before this one are aligned.
use Rattle.audit_fast.specs.Found.{EachAligned}
use Rattle.audit_fast.proofs.each_aligned.Given as goal

abbrev pub invariant-loop-row : goal.invariant-loop-row
invariant-loop-row l = EachAligned l.items l.row l.step
