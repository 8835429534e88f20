use Rattle.numbers.specs.Library.{arith}
use Rattle.texts.proofs.Short.{made_lines}
use Rattle.texts.proofs.answer.put_made.Goals as goal

pub returns : goal.returns
returns c =
    let fits = c.ranges in
    made_lines c.args.columns (omega arith) c.put_line.ensures
