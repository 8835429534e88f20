-- `sizes_of`: 2,115 and 2,341 blocks at most.
use Rattle.numbers.specs.Library.{refl, arith}
use Rattle.image_form.specs.Blocks.{block_count}
use Rattle.image_sizes.proofs.sizes_of.Goals as goal

pub returns : goal.returns
unfolding block_count
returns c = record {
  shelf_blocks = omega arith;
  item_blocks = omega arith;
  items_from = refl;
  ends = refl;
  few_blocks = omega arith;
  few_shelves = omega arith;
  few_items = omega arith;
}
