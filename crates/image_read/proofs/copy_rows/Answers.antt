-- `copy_rows`: the rows of both tables.
use Rattle.numbers.specs.Library.{arith}
use Rattle.rows.specs.Prelude.{items, shelves}
use Rattle.image_form.proofs.Tables.{rows_hold}
use Rattle.image_sizes.proofs.Fitting.{shelf_layout_is, item_layout_is, shelves_laid, items_laid}
use Rattle.image_read.proofs.Judging.{part_of_blocks}
use Rattle.image_read.proofs.copy_rows.Goals as goal

pub invariant_of-shelf_blocks : goal.invariant_of-shelf_blocks
invariant_of-shelf_blocks c = record { laid = rw shelf_layout_is (shelves_laid c.requires.0 1 (omega arith)) }

pub invariant_of-item_blocks : goal.invariant_of-item_blocks
invariant_of-item_blocks c = record { laid = rw item_layout_is (items_laid c.requires.0 _ (omega arith)) }

pub copy-requires : goal.copy-requires
unfolding shelves
copy-requires c = (
  part_of_blocks c.args.image.now 512 _ _ c.requires.0.items_from (omega arith),
  rows_hold shelves _ _ c.requires.2.shelf_room,
)

pub copy-requires-2 : goal.copy-requires-2
unfolding items
copy-requires-2 c = (
  part_of_blocks c.args.image.now _ _ _ c.requires.0.ends (omega arith),
  rows_hold items _ _ c.requires.2.item_room,
)

pub returns : goal.returns
returns c = record {
  shelves_after = rw shelf_layout_is at c.copy.ensures;
  items_after = rw item_layout_is at c.copy-2.ensures;
}
