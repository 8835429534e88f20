use Rattle.numbers.specs.Library.{refl}
use Rattle.rows.specs.Prelude.{with_y, with_height, with_shelf_prev, with_first_item, with_first_free, with_empty}
use Rattle.shelf_edits.specs.ShelfEdits.{lower_of}
use Rattle.wrap.specs.Wrap.{plus16, minus16}
use Rattle.shelf_edits.proofs.lower_of.Goals as goal

pub returns : goal.returns
unfolding with_y with_height with_shelf_prev with_first_item with_first_free with_empty lower_of plus16 minus16
returns c = refl
