-- `limits_in`: six words.
use Rattle.image_read.specs.Right.{header_in}
use Rattle.image_read.proofs.limits_in.Goals as goal

pub returns : goal.returns
unfolding header_in
returns c = rw (c.word.ensures, c.word-2.ensures, c.word-3.ensures, c.word-4.ensures, c.word-5.ensures, c.word-6.ensures)
