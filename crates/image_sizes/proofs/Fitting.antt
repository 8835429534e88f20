-- The layouts of both tables' rows, and that the used rows fit the blocks that they take. Assumes nothing.
use Rattle.std.specs.Prelude.{◌+◌, ◌≤◌, ◌≡◌}
use Rattle.numbers.specs.Library.{ℕ, refl, arith}
use Rattle.rows.specs.Prelude.{items, shelves}
use Rattle.rows.specs.declared.header.Header.{Header}
use Rattle.image_form.specs.Blocks.{block_count}
use Rattle.image_form.specs.Form1.{shelf_rows_of, item_rows_of}
use Rattle.row_blocks.specs.Layout.{layout_of, Laid}
use Rattle.image_sizes.specs.Sizes.{SizesOf}
use Rattle.image_sizes.specs.declared.Sizes.{Sizes}
use Rattle.image_sizes.specs.declared.TheConstants.{SHELF_LAYOUT, ITEM_LAYOUT}

-- the layouts of the code are those of the form
pub shelf_layout_is : SHELF_LAYOUT ≡ layout_of shelf_rows_of
unfolding layout_of shelf_rows_of shelves
shelf_layout_is = refl

pub item_layout_is : ITEM_LAYOUT ≡ layout_of item_rows_of
unfolding layout_of item_rows_of items
item_layout_is = refl

module _ {h : Header} {z : Sizes} (is : SizesOf h z) where
  -- all rows have room, and each block has a row
  pub shelves_laid : (first : ℕ) → first ≤ 1 → Laid (layout_of shelf_rows_of) first h.used_shelves z.shelf_blocks
  unfolding layout_of shelf_rows_of shelves block_count
  shelves_laid first b = record {
    kind_fits = omega arith;
    rows_fit = omega arith;
    all_held = omega (arith, is.shelf_blocks);
    each_some = omega (arith, is.shelf_blocks);
    few_rows = is.few_shelves;
    few_blocks = omega (arith, is.few_blocks);
  }

  pub items_laid : (first : ℕ) → first ≤ 1 + z.shelf_blocks → Laid (layout_of item_rows_of) first h.used_items z.item_blocks
  unfolding layout_of item_rows_of items block_count
  items_laid first b = record {
    kind_fits = omega arith;
    rows_fit = omega arith;
    all_held = omega (arith, is.item_blocks);
    each_some = omega (arith, is.item_blocks);
    few_rows = is.few_items;
    few_blocks = omega (arith, is.few_blocks);
  }
