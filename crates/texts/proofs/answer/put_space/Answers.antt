use Rattle.numbers.specs.Library.{arith}
use Rattle.texts.proofs.Short.{space_lines}
use Rattle.texts.proofs.answer.put_space.Goals as goal

pub returns : goal.returns
returns c =
    let fits = c.ranges in
    space_lines c.args.occupied c.args.free (omega arith) (omega arith) c.put_line.ensures
