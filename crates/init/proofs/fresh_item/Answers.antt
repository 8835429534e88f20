use Rattle.rows.specs.Prelude.{with_generation}
use Rattle.init.specs.Init.{fresh_item_row}
use Rattle.wrap.specs.Wrap.{times16}
use Rattle.init.proofs.fresh_item.Goals as goal

pub returns : goal.returns
unfolding with_generation fresh_item_row times16
returns c = rw c.lone_item.ensures
