-- `add_shelf`: the next unused row where none is freed, else the latest freed one.
use Rattle.numbers.specs.Library.{refl}
use Rattle.rows.specs.Prelude.{with_used_shelves, with_free_shelves}
use Rattle.pool.specs.Pool.{one_more_of, new_row, head_after, used_after, new_shelf, shelf_taken, add_shelf, added_shelf}
use Rattle.pool.proofs.add_shelf.Goals as goal

-- no row is freed
pub returns-then-is_none : goal.returns-then-is_none
unfolding one_more_of new_row head_after used_after new_shelf shelf_taken add_shelf added_shelf with_used_shelves with_free_shelves
returns-then-is_none c = rw (← c.is_none.ensures, c.if-is_none.true) (refl, c.put.ensures)

-- the latest freed row is used again
pub returns : goal.returns
unfolding one_more_of new_row head_after used_after new_shelf shelf_taken add_shelf added_shelf with_used_shelves with_free_shelves
returns c = rw (← c.is_none.ensures, c.if-is_none.false) (rw c.get-old.ensures, c.put-2.ensures)
