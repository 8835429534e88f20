-- `image_right`: the header block, the length that its used rows ask for, and the blocks of the rows.
use Rattle.numbers.specs.Library.{arith}
use Rattle.numbers.specs.Prelude.{denied, allowed}
use Rattle.image_read.proofs.Judging.{too_short, header_wrong, other_length, rows_decide}
use Rattle.numbers.specs.Library.{ap, not}
use Rattle.image_read.proofs.image_right.Goals as goal

pub returns-then-image-lt512 : goal.returns-then-image-lt512
returns-then-image-lt512 c = too_short _ c.if-image-lt512.true

pub returns-then-not-block_right : goal.returns-then-not-block_right
returns-then-not-block_right c = header_wrong _ (denied c.block_right.ensures (ap not c.if-not-block_right.true))

pub returns-then-z-image : goal.returns-then-z-image
returns-then-z-image c = other_length _ c.header_in-h.ensures c.sizes_of-z.ensures (λ e. omega (arith, c.if-z-image.true))

pub rows_right-requires : goal.rows_right-requires
rows_right-requires c = (c.sizes_of-z.ensures, omega (arith, c.if-z-image.false))

pub returns : goal.returns
returns c =
    rows_decide _ c.header_in-h.ensures c.sizes_of-z.ensures (allowed c.block_right.ensures (ap not c.if-not-block_right.false)) c.if-z-image.false c.rows_right.ensures
