-- `header_in`: its limits and six words more.
use Rattle.image_read.specs.Right.{header_in}
use Rattle.image_read.proofs.header_in.Goals as goal

pub returns : goal.returns
unfolding header_in
returns c =
    rw (c.limits_in.ensures, c.word.ensures, c.word-2.ensures, c.word-3.ensures, c.word-4.ensures, c.word-5.ensures, c.word-6.ensures)
