-- `place`: a row of at most 12 numbers lies where 64 bits reach.
use Rattle.std.specs.Prelude.{◌*◌, ◌≤◌}
use Rattle.numbers.specs.Library.{ℕ, mul-le-mul, arith}
use Rattle.audit_runs.proofs.case.place.Goals as goal

small : (row numbers : ℕ) → row ≤ 65535 → numbers ≤ 12 → row * numbers ≤ 786420
small row numbers h k = mul-le-mul h k

pub overflow_mul-result : goal.overflow_mul-result
overflow_mul-result c = let a = c.args in omega (arith, small a.c.row a.numbers (omega arith) (omega arith))

pub overflow_add-result : goal.overflow_add-result
overflow_add-result c = let a = c.args in omega (arith, small a.c.row a.numbers (omega arith) (omega arith))
