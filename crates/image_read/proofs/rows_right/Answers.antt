-- `rows_right`: the blocks of the shelf rows, then those of the item rows.
use Rattle.numbers.specs.Library.{arith}
use Rattle.numbers.specs.Prelude.{denied, allowed}
use Rattle.image_sizes.proofs.Fitting.{shelf_layout_is, item_layout_is, shelves_laid, items_laid}
use Rattle.image_read.proofs.Judging.{shelves_wrong, items_decide}
use Rattle.numbers.specs.Library.{ap, not}
use Rattle.image_read.proofs.rows_right.Goals as goal

pub invariant_of-shelves : goal.invariant_of-shelves
invariant_of-shelves c = record { laid = rw shelf_layout_is (shelves_laid c.requires.0 1 (omega arith)) }

pub invariant_of-items : goal.invariant_of-items
invariant_of-items c = record { laid = rw item_layout_is (items_laid c.requires.0 _ (omega arith)) }

pub returns-then-not-are_right : goal.returns-then-not-are_right
returns-then-not-are_right c = shelves_wrong _ _ _ (denied (rw shelf_layout_is at c.are_right.ensures) (ap not c.if-not-are_right.true))

pub returns : goal.returns
returns c =
    items_decide _ _ _ (allowed (rw shelf_layout_is at c.are_right.ensures) (ap not c.if-not-are_right.false)) (rw item_layout_is at c.are_right-2.ensures)
