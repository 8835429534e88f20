use Rattle.numbers.specs.Library.{rules}
use Rattle.rows.specs.Prelude.{with_prev_free, with_next_free, with_allocated}
use Rattle.item_edits.specs.ItemEdits.{with_links, mark_live}
use Rattle.item_edits.proofs.mark_live.Goals as goal

pub returns : goal.returns
unfolding with_links mark_live with_prev_free with_next_free with_allocated
returns c = c.change.ensures mark_live (λ v r k. search rules)
