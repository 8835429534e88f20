-- `keep`: a byte is stored where there is room for it, and what is kept stays where there is none.
use Rattle.numbers.specs.Library.{arith, sym}
use Rattle.input.proofs.Bytes.{kept_byte, kept_full}
use Rattle.input.proofs.keep.Goals as goal

pub returns-then-have-le-LONGEST-clause-holds : goal.returns-then-have-le-LONGEST-clause-holds
returns-then-have-le-LONGEST-clause-holds c = sym (kept_byte c.args.line.now c.args.have c.args.byte c.requires.0 (omega arith))

pub returns-clause-holds : goal.returns-clause-holds
returns-clause-holds c = sym (kept_full c.args.line.now c.args.have c.args.byte c.requires.0 (omega arith))
