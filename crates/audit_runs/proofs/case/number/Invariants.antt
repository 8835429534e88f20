-- `number`: what is read so far is at most 65535, so one more digit fits 32 bits.
use Rattle.std.specs.Prelude.{◌≤◌}
use Rattle.audit_runs.proofs.case.number.Given as goal

abbrev pub invariant-loop-byte : goal.invariant-loop-byte
invariant-loop-byte l = l.n ≤ 65535
