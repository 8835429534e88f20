use Rattle.numbers.specs.Library.{sym, ◌∙◌, eqb-true}
use Rattle.rows.specs.Prelude.{get_none, items}
use Rattle.rows.proofs.item.linked_item.Goals as goal

pub returns-then-is_none : goal.returns-then-is_none
unfolding items
returns-then-is_none c = rw c.zero.ensures (get_none items _ _ (eqb-true _ _ (sym c.is_none.ensures ∙ c.if-is_none.true)))
