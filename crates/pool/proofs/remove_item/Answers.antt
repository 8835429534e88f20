use Rattle.numbers.specs.Library.{refl}
use Rattle.rows.specs.Prelude.{with_free_items, with_item_next, with_generation}
use Rattle.pool.specs.Pool.{freed_item_row, remove_item, item_freed}
use Rattle.pool.proofs.remove_item.Goals as goal

pub returns : goal.returns
unfolding remove_item item_freed freed_item_row with_free_items with_item_next with_generation
returns c = (refl, rw (c.put.ensures, c.zero-v.ensures, c.get-old.ensures))
