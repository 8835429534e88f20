use Rattle.numbers.specs.Library.{arith}
use Rattle.texts.proofs.Short.{end_lines}
use Rattle.texts.proofs.answer.put_end.Goals as goal

pub returns : goal.returns
returns c =
    let fits = c.ranges in
    end_lines c.args.count (omega arith) c.put_line.ensures
