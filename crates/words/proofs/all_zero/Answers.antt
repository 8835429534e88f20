use Rattle.numbers.specs.Library.{arith}
use Rattle.image_form.proofs.Words.{length-words}
use Rattle.words.proofs.Over.{ored_none, ored_next, ored_all}
use Rattle.words.proofs.all_zero.Goals as goal

pub loop-i-init : goal.loop-i-init
loop-i-init c = ored_none _

pub loop-i-preserved : goal.loop-i-preserved
loop-i-preserved c = ored_next c.loop-i.invariant (omega (arith, length-words c.args.bytes.now)) _ c.word-any.ensures

pub returns : goal.returns
returns c = ored_all c.loop-i.invariant (omega (arith, length-words c.args.bytes.now))
