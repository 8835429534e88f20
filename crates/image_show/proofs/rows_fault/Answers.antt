-- `rows_fault`: block by block, each where it is there. Assumes nothing.
use Rattle.std.specs.Prelude.{◌+◌, ◌*◌}
use Rattle.numbers.specs.Library.{arith}
use Rattle.row_blocks.proofs.Places.{part_long}
use Rattle.image_show.proofs.rows_fault.Goals as goal

pub block_fault-fault-requires : goal.block_fault-fault-requires
block_fault-fault-requires c = (part_long c.args.image.now ((c.args.blocks.first + c.loop-b.b) * 512) 512 (omega arith), c.rows_in-rows.ensures.held)
