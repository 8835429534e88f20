use Rattle.std.proofs.Common.{◌≤◌, mul-le-mul, arith}
use Rattle.wrap.proofs.area.Goals as goal

pub overflow_mul-result : goal.overflow_mul-result
overflow_mul-result c = let w : c.args.width ≤ 65535 = omega arith in let d : c.args.depth ≤ 65535 = omega arith in omega (arith, mul-le-mul w d)
