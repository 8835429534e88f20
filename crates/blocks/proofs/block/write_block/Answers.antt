-- `write_block`: heading, data, zeros and check, one after the other over all 512 bytes.
use Rattle.numbers.specs.Library.{ap, ◌∙◌}
use Rattle.image_form.specs.Bytes.{bytes_of}
use Rattle.image_form.specs.Form1.{form1}
use Rattle.image_form.proofs.Blocks.{block_written}
use Rattle.blocks.proofs.block.write_block.Goals as goal

pub returns : goal.returns
unfolding form1
returns c =
    block_written c.args.heading.number c.args.heading.kind c.args.heading.rows c.args.numbers.now c.requires.1 c.args.out.now c.requires.0 _ _ _ _
    (c.write_words.ensures ∙ ap bytes_of c.to_words-front.ensures)
    c.write_words-2.ensures
    (c.fill.ensures.after (λ y e. e))
    (c.write_words-3.ensures ∙ ap bytes_of c.check_of-check.ensures)
