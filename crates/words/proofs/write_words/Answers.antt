use Rattle.numbers.specs.Library.{arith}
use Rattle.image_form.proofs.Words.{length_bytes}
use Rattle.words.proofs.Over.{over_none, over_word}
use Rattle.words.proofs.write_words.Goals as goal

pub loop-i-init : goal.loop-i-init
loop-i-init c = over_none (omega (arith, length_bytes c.args.numbers.now))

pub loop-i-preserved : goal.loop-i-preserved
loop-i-preserved c =
    over_word _ _ (omega arith) c.loop-i.invariant _ (rw c.to_le_bytes.ensures) _ (rw c.to_le_bytes.ensures (omega (arith, c.type_inv.numbers c.loop-i.i)))
