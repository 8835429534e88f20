-- `all_zero`: the first words are or-ed so far.
use Rattle.image_form.specs.Bytes.{words_of}
use Rattle.words.proofs.Over.{Ored}
use Rattle.words.proofs.all_zero.Given as goal

abbrev pub invariant-loop-i : goal.invariant-loop-i
invariant-loop-i l = Ored (words_of l.bytes) l.i l.any
