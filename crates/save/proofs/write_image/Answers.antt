-- `write_image`: the header block, the blocks of the shelf rows, the blocks of the item rows.
use Rattle.numbers.specs.Library.{[], arith}
use Rattle.rows.specs.Prelude.{items, shelves}
use Rattle.image_form.proofs.Tables.{rows_hold}
use Rattle.image_sizes.proofs.Fitting.{shelf_layout_is, item_layout_is, shelves_laid, items_laid}
use Rattle.save.proofs.Saved.{shelves_lent, items_lent, image_written}
use Rattle.save.proofs.write_image.Goals as goal

pub invariant_of-shelf_blocks : goal.invariant_of-shelf_blocks
invariant_of-shelf_blocks c = record { laid = rw shelf_layout_is (shelves_laid c.requires.0 1 (omega arith)) }

pub invariant_of-item_blocks : goal.invariant_of-item_blocks
invariant_of-item_blocks c = record { laid = rw item_layout_is (items_laid c.requires.0 _ (omega arith)) }

pub write-requires : goal.write-requires
unfolding shelves
write-requires c = (
  shelves_lent _ c.requires.0 _ _ c.requires.1 c.args.out.now _ [] [] c.requires.2 c.write_header.ensures,
  rows_hold shelves _ _ c.requires.1.shelf_room,
)

pub write-requires-2 : goal.write-requires-2
unfolding items
write-requires-2 c = (
  items_lent _ c.requires.0 _ _ c.requires.1 c.args.out.now _ _ [] c.requires.2 c.write_header.ensures (rw shelf_layout_is at c.write.ensures),
  rows_hold items _ _ c.requires.1.item_room,
)

pub returns : goal.returns
returns c =
    image_written _ c.requires.0 _ _ c.requires.1 c.args.out.now _ _ _ c.requires.2 c.write_header.ensures
    (rw shelf_layout_is at c.write.ensures) (rw item_layout_is at c.write-2.ensures)
