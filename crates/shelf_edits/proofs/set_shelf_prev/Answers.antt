use Rattle.numbers.specs.Library.{rules}
use Rattle.rows.specs.Prelude.{with_shelf_prev}
use Rattle.shelf_edits.proofs.set_shelf_prev.Goals as goal

pub returns : goal.returns
unfolding with_shelf_prev
returns c = c.change.ensures (with_shelf_prev _) (λ s r k. search rules)
