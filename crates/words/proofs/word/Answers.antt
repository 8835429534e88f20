-- `word`: two bytes, each below 256.
use Rattle.numbers.specs.Library.{arith}
use Rattle.image_form.proofs.Words.{word_at}
use Rattle.words.proofs.word.Goals as goal

pub returns : goal.returns
returns c = omega (arith, word_at c.args.bytes.now c.args.at c.requires)
