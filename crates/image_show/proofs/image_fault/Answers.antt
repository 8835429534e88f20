-- `image_fault`: the used rows fit the blocks that they take. Assumes nothing.
use Rattle.numbers.specs.Library.{arith}
use Rattle.image_sizes.proofs.Fitting.{shelf_layout_is, item_layout_is, shelves_laid, items_laid}
use Rattle.image_show.proofs.image_fault.Goals as goal

pub invariant_of-shelves : goal.invariant_of-shelves
invariant_of-shelves c = record { laid = rw shelf_layout_is (shelves_laid c.sizes_of-z.ensures 1 (omega arith)) }

pub invariant_of-items : goal.invariant_of-items
invariant_of-items c = record { laid = rw item_layout_is (items_laid c.sizes_of-z.ensures _ (omega arith)) }
