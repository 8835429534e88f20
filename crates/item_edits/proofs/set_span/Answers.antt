use Rattle.numbers.specs.Library.{rules}
use Rattle.rows.specs.Prelude.{with_width, with_item_next}
use Rattle.item_edits.specs.ItemEdits.{with_span}
use Rattle.item_edits.proofs.set_span.Goals as goal

pub returns : goal.returns
unfolding with_span with_width with_item_next
returns c = c.change.ensures (with_span _ _) (λ v r k. search rules)
