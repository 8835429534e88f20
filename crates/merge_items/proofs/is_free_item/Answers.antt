use Rattle.merge_items.specs.MergeItems.{is_free_item}
use Rattle.merge_items.proofs.is_free_item.Goals as goal

pub returns-then-not-is_none : goal.returns-then-not-is_none
unfolding is_free_item
returns-then-not-is_none c = rw (← c.is_none.ensures, c.if-not-is_none.true, ← c.linked_item.ensures)

pub returns-else-not-is_none : goal.returns-else-not-is_none
unfolding is_free_item
returns-else-not-is_none c = rw (← c.is_none.ensures, c.if-not-is_none.false)
