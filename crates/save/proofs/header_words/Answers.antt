-- `header_words`: in document 01's order.
use Rattle.numbers.specs.Library.{refl}
use Rattle.image_form.specs.Form1.{header_words}
use Rattle.save.proofs.header_words.Goals as goal

pub returns : goal.returns
unfolding header_words
returns c = refl
