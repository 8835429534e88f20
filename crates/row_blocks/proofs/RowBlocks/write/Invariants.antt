-- `write`: the blocks so far are written.
use Rattle.std.specs.Prelude.{◌*◌}
use Rattle.image_form.specs.Bytes.{bytes_of}
use Rattle.image_form.proofs.Written.{Written}
use Rattle.row_blocks.specs.Layout.{table_block}
use Rattle.image_form.specs.Blocks.{up_to}
use Rattle.row_blocks.proofs.RowBlocks.write.Given as goal

abbrev pub invariant-loop-b : goal.invariant-loop-b
invariant-loop-b l = Written l.initial.out (bytes_of (up_to (table_block l.self.layout l.self.used l.self.first l.table) l.b)) (l.b * 512) l.out
