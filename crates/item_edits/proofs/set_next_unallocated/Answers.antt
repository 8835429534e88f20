use Rattle.numbers.specs.Library.{rules}
use Rattle.rows.specs.Prelude.{with_next_free}
use Rattle.item_edits.proofs.set_next_unallocated.Goals as goal

pub returns : goal.returns
unfolding with_next_free
returns c = c.change.ensures (with_next_free _) (λ v r k. search rules)
