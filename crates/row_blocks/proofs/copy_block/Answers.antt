-- `copy_block`: the lent bytes of block b are its numbers.
use Rattle.row_blocks.proofs.Places.{block_copied}
use Rattle.row_blocks.proofs.copy_block.Goals as goal

pub returns : goal.returns
returns c = block_copied _ _ _ _ _ c.requires.0.inside c.requires.0.held _ c.read_words.ensures
