-- `copy`: the numbers so far are copied.
use Rattle.numbers.specs.Library.{length}
use Rattle.image_form.specs.Bytes.{words_of}
use Rattle.image_form.specs.Blocks.{up_to}
use Rattle.image_form.proofs.Written.{Written}
use Rattle.row_blocks.specs.Layout.{held_in_of}
use Rattle.row_blocks.proofs.RowBlocks.copy.Given as goal

abbrev pub invariant-loop-b : goal.invariant-loop-b
invariant-loop-b l =
    Written l.initial.table (up_to (held_in_of l.self.layout l.self.used (words_of l.image)) l.b) (length (up_to (held_in_of l.self.layout l.self.used (words_of l.image)) l.b)) l.table
