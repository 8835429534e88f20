-- `sum_of_words`: the sum so far is that of the first words.
use Rattle.image_form.specs.Bytes.{words_of}
use Rattle.words.proofs.Over.{Summed}
use Rattle.words.proofs.sum_of_words.Given as goal

abbrev pub invariant-loop-i : goal.invariant-loop-i
invariant-loop-i l = Summed (words_of l.bytes) l.i l.sum
