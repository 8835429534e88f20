-- `rows_in`: all that a block has room for, or what is left.
use Rattle.row_blocks.specs.Layout.{rows_in_of}
use Rattle.row_blocks.proofs.Places.{rows_are}
use Rattle.row_blocks.proofs.Layout.rows_in.Goals as goal

pub returns : goal.returns
unfolding rows_in_of
returns c = rows_are _ _ _ c.requires.0 c.requires.2 _ c.min.ensures
