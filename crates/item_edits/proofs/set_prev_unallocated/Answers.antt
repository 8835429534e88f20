use Rattle.numbers.specs.Library.{rules}
use Rattle.rows.specs.Prelude.{with_prev_free}
use Rattle.item_edits.proofs.set_prev_unallocated.Goals as goal

pub returns : goal.returns
unfolding with_prev_free
returns c = c.change.ensures (with_prev_free _) (λ v r k. search rules)
