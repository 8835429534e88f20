use Rattle.numbers.specs.Library.{rules}
use Rattle.rows.specs.Prelude.{with_allocated}
use Rattle.item_edits.specs.ItemEdits.{mark_free}
use Rattle.item_edits.proofs.mark_free.Goals as goal

pub returns : goal.returns
unfolding mark_free with_allocated
returns c = c.change.ensures mark_free (λ v r k. search rules)
