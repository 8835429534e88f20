use Rattle.numbers.specs.Library.{arith}
use Rattle.image_form.specs.Bytes.{bytes_of}
use Rattle.image_form.proofs.Written.{written_none}
use Rattle.row_blocks.proofs.Places.{one_written}
use Rattle.row_blocks.proofs.RowBlocks.write.Goals as goal

pub loop-b-init : goal.loop-b-init
unfolding bytes_of
loop-b-init c = written_none _

pub loop-b-preserved : goal.loop-b-preserved
loop-b-preserved c =
    one_written _ _ _ _ c.args.self.laid c.loop-b.b (omega arith) c.loop-b.invariant _ c.rows_in-rows.ensures.are _ (rw c.heading-heading.ensures at c.write_block.ensures)
