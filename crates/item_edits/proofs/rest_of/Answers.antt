use Rattle.numbers.specs.Library.{refl}
use Rattle.rows.specs.Prelude.{with_item_x, with_width, with_item_prev, with_allocated}
use Rattle.item_edits.specs.ItemEdits.{rest_of}
use Rattle.wrap.specs.Wrap.{plus16, minus16}
use Rattle.item_edits.proofs.rest_of.Goals as goal

pub returns : goal.returns
unfolding with_item_x with_width with_item_prev with_allocated rest_of plus16 minus16
returns c = refl
