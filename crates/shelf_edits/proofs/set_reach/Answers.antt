use Rattle.numbers.specs.Library.{rules}
use Rattle.rows.specs.Prelude.{with_height, with_shelf_next}
use Rattle.shelf_edits.specs.ShelfEdits.{with_reach}
use Rattle.shelf_edits.proofs.set_reach.Goals as goal

pub returns : goal.returns
unfolding with_reach with_height with_shelf_next
returns c = c.change.ensures (with_reach _ _) (λ s r k. search rules)
