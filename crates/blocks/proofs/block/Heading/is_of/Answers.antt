-- `is_of`: each of the three words.
use Rattle.blocks.proofs.Judged.{heading_decides}
use Rattle.blocks.proofs.block.Heading.is_of.Goals as goal

pub returns : goal.returns
returns c = heading_decides _ c.requires _ _ _ c.word.ensures c.word-2.ensures c.word-3.ensures c.to_words.ensures c.eq.ensures
