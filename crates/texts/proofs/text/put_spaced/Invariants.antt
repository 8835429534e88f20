-- `put_spaced`: the numbers so far are put, each with a space before it.
use Rattle.numbers.specs.Library.{take}
use Rattle.texts.specs.Put.{Puts}
use Rattle.texts.specs.Text.{spaced}
use Rattle.texts.proofs.text.put_spaced.Given as goal

abbrev pub invariant-loop-number : goal.invariant-loop-number
invariant-loop-number l = Puts l.initial.out l.at (spaced (take l.number-index l.numbers)) l.out l.end
