-- `add_item`: the next unused row where none is freed, else the latest freed one, with its generation plus one.
use Rattle.numbers.specs.Library.{refl}
use Rattle.rows.specs.Prelude.{with_used_items, with_free_items, with_generation}
use Rattle.pool.specs.Pool.{one_more_of, new_row, head_after, used_after, new_item, new_generation, item_taken, add_item, added_item}
use Rattle.pool.proofs.add_item.Goals as goal

-- no row is freed
pub returns-then-is_none : goal.returns-then-is_none
unfolding one_more_of new_row head_after used_after new_item new_generation item_taken add_item added_item with_used_items with_free_items with_generation
returns-then-is_none c = rw (← c.is_none.ensures, c.if-is_none.true) (refl, c.put.ensures)

-- the latest freed row is used again
pub returns : goal.returns
unfolding one_more_of new_row head_after used_after new_item new_generation item_taken add_item added_item with_used_items with_free_items with_generation
returns c =
    rw (← c.is_none.ensures, c.if-is_none.false)
    (rw c.get-old.ensures, rw (c.put-2.ensures, c.get-old.ensures))
