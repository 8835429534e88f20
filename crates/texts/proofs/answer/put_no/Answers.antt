use Rattle.numbers.specs.Library.{arith}
use Rattle.texts.proofs.Short.{no_lines}
use Rattle.texts.proofs.answer.put_no.Goals as goal

pub returns : goal.returns
returns c = no_lines c.args.number (omega arith) c.put_line.ensures
