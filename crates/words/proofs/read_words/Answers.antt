use Rattle.numbers.specs.Library.{arith}
use Rattle.image_form.proofs.Words.{length-words}
use Rattle.words.proofs.Over.{over_none, over_next}
use Rattle.words.proofs.read_words.Goals as goal

pub loop-i-init : goal.loop-i-init
loop-i-init c = over_none (omega (arith, length-words c.args.bytes.now))

pub loop-i-preserved : goal.loop-i-preserved
loop-i-preserved c = over_next (omega arith) c.loop-i.invariant _ c.word.ensures
