-- `one_right`: the bytes of block b are its words.
use Rattle.row_blocks.specs.Layout.{RightAt}
use Rattle.row_blocks.proofs.Places.{words_of-block}
use Rattle.row_blocks.proofs.one_right.Goals as goal

pub returns : goal.returns
unfolding RightAt
returns c = rw (words_of-block c.args.image.now c.args.b, c.heading-heading.ensures) at c.block_right.ensures
