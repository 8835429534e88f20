-- `to_words`: bytes 2 and 3 are one word.
use Rattle.image_form.specs.Form1.{form1}
use Rattle.blocks.proofs.block.Heading.to_words.Goals as goal

pub returns : goal.returns
unfolding form1
returns c = rw c.from.ensures
