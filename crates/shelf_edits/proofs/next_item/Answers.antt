use Rattle.pool.specs.Pool.{new_row, new_item}
use Rattle.shelf_edits.proofs.next_item.Goals as goal

pub returns-then-is_none : goal.returns-then-is_none
unfolding new_row new_item
returns-then-is_none c = rw (← c.is_none.ensures, c.if-is_none.true)

pub returns : goal.returns
unfolding new_row new_item
returns c = rw (← c.is_none.ensures, c.if-is_none.false)
