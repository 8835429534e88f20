-- `put_text`: the bytes so far are put.
use Rattle.numbers.specs.Library.{take}
use Rattle.texts.specs.Put.{Puts}
use Rattle.texts.proofs.text.put_text.Given as goal

abbrev pub invariant-loop-byte : goal.invariant-loop-byte
invariant-loop-byte l = Puts l.initial.out l.at (take l.byte-index l.text) l.out l.end
