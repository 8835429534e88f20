use Rattle.numbers.specs.Library.{sym, ◌∙◌, eqb-true}
use Rattle.rows.specs.Prelude.{put_none, items}
use Rattle.rows.proofs.item.put_linked_item.Goals as goal

pub returns-then-is_none : goal.returns-then-is_none
returns-then-is_none c = put_none items _ _ _ (eqb-true _ _ (sym c.is_none.ensures ∙ c.if-is_none.true))
