-- `write_header`: one block, whose data are the twelve words.
use Rattle.numbers.specs.Library.{List, ℕ, ap, ◌∙◌}
use Rattle.image_form.specs.Bytes.{bytes_of}
use Rattle.image_form.specs.Blocks.{block}
use Rattle.image_form.specs.Form1.{form1}
use Rattle.save.proofs.write_header.Goals as goal

pub returns : goal.returns
returns c =
    c.write_block.ensures ∙ ap (λ (words : List ℕ). bytes_of (block form1 0 0 1 words)) c.header_words-words.ensures
