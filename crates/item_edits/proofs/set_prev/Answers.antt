use Rattle.numbers.specs.Library.{rules}
use Rattle.rows.specs.Prelude.{with_item_prev}
use Rattle.item_edits.proofs.set_prev.Goals as goal

pub returns : goal.returns
unfolding with_item_prev
returns c = c.change.ensures (with_item_prev _) (λ v r k. search rules)
