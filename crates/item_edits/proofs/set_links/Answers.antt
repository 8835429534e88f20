use Rattle.numbers.specs.Library.{rules}
use Rattle.rows.specs.Prelude.{with_prev_free, with_next_free}
use Rattle.item_edits.specs.ItemEdits.{with_links}
use Rattle.item_edits.proofs.set_links.Goals as goal

pub returns : goal.returns
unfolding with_links with_prev_free with_next_free
returns c = c.change.ensures (with_links _ _) (λ v r k. search rules)
