-- `full_right`: no block, or the blocks so far are right.
use Rattle.std.specs.Prelude.{◌*◌}
use Rattle.image_form.specs.Bytes.{words_of}
use Rattle.row_blocks.specs.Layout.{AllRight}
use Rattle.row_blocks.proofs.full_right.Given as goal

abbrev pub invariant-loop-b : goal.invariant-loop-b
invariant-loop-b l = AllRight l.k (l.full * l.k.most) l.first l.b (words_of l.image)
