use Rattle.numbers.specs.Library.{◌∙◌, arith}
use Rattle.image_form.proofs.Words.{length-words}
use Rattle.words.proofs.Over.{summed_none, summed_next, summed_all}
use Rattle.words.proofs.sum_of_words.Goals as goal

pub loop-i-init : goal.loop-i-init
loop-i-init c = summed_none _

pub loop-i-preserved : goal.loop-i-preserved
loop-i-preserved c =
    summed_next c.loop-i.invariant (omega (arith, length-words c.args.bytes.now)) _ (c.from-sum.ensures ∙ c.word.ensures) (omega arith)

pub returns : goal.returns
returns c = summed_all c.loop-i.invariant (omega (arith, length-words c.args.bytes.now))
