-- `rows_in`: what the layout says of the used rows.
use Rattle.numbers.specs.Library.{arith}
use Rattle.row_blocks.proofs.Places.{passed}
use Rattle.row_blocks.proofs.RowBlocks.rows_in.Goals as goal

pub rows_in-requires : goal.rows_in-requires
rows_in-requires c = (passed c.args.self.laid c.args.b c.requires, (omega (arith, c.args.self.laid.few_rows)), c.args.self.laid.rows_fit)
