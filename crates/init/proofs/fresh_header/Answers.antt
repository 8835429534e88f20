use Rattle.numbers.specs.Library.{refl}
use Rattle.rows.specs.Prelude.{with_limits, with_used_shelves, with_used_items, with_free_items, with_free_shelves}
use Rattle.init.specs.Init.{fresh_header}
use Rattle.init.proofs.fresh_header.Goals as goal

pub returns : goal.returns
unfolding with_limits with_used_shelves with_used_items with_free_items with_free_shelves fresh_header
returns c = refl
