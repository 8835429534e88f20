-- `read_words`: so far the first numbers are the first words.
use Rattle.image_form.specs.Bytes.{words_of}
use Rattle.words.proofs.Over.{Over}
use Rattle.words.proofs.read_words.Given as goal

abbrev pub invariant-loop-i : goal.invariant-loop-i
invariant-loop-i l = Over l.initial.numbers (words_of l.bytes) l.i l.numbers
