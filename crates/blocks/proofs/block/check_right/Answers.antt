-- `check_right`: a sum of the words up to the data's end, or of all words less the check.
use Rattle.numbers.specs.Library.{arith}
use Rattle.blocks.proofs.Judged.{to_end, front_decides, whole_decides}
use Rattle.blocks.proofs.block.check_right.Goals as goal

pub returns-then-count-lt150 : goal.returns-then-count-lt150
returns-then-count-lt150 c = front_decides _ c.requires.0 _ c.requires.1 _ _ c.word-check.ensures c.sum_of_words.ensures

pub overflow_sub-result : goal.overflow_sub-result
overflow_sub-result c = omega (arith, to_end _ c.requires.0 _ c.requires.1 c.requires.2)

pub returns : goal.returns
returns c = whole_decides _ c.requires.0 _ c.requires.1 _ _ c.word-check.ensures c.sum_of_words-2.ensures c.requires.2
