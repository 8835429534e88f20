-- `table_sum`: the sum stays below 65521. Assumes nothing.
use Rattle.std.proofs.Common.{◌<◌}
use Rattle.image_runs.proofs.table_sum.Given as goal

abbrev pub invariant-loop-number : goal.invariant-loop-number
invariant-loop-number l = l.sum < 65521
