-- What load asks of an image, test by test. That this says whether it is the image of a header and rows is proved (proofs/Standing). Assumes nothing.
use Rattle.std.specs.Prelude.{◌+◌, ◌-◌, ◌*◌, ◌≡◌}
use Rattle.numbers.specs.Library.{ℕ, List, length, get_or, take, drop}
use Rattle.rows.specs.declared.header.Header.{Header}
use Rattle.image_form.specs.Bytes.{words_of}
use Rattle.image_form.specs.Blocks.{up_to}
use Rattle.image_form.specs.Form1.{shelf_rows_of, item_rows_of}
use Rattle.blocks.specs.Right.{BlockRight}
use Rattle.row_blocks.specs.Layout.{layout_of, AllRight, held_in_of}
use Rattle.image_sizes.specs.Sizes.{SizesOf}
use Rattle.image_sizes.specs.declared.Sizes.{Sizes}

-- the header whose numbers stand in the words of the first block
unfoldable pub header_in : List ℕ → Header
header_in words = record {
  limits = record {
    width = get_or words 3 0;
    height = get_or words 4 0;
    align_width = get_or words 5 0;
    align_height = get_or words 6 0;
    vertical = get_or words 7 0;
    shelf_width = get_or words 8 0;
  };
  used_shelves = get_or words 9 0;
  used_items = get_or words 10 0;
  free_items = record { 0 = get_or words 11 0 };
  free_shelves = record { 0 = get_or words 12 0 };
  occupied = get_or words 13 0 + 65536 * get_or words 14 0;
}

module _ (image : List ℕ) where
  abbrev pub header_block : List ℕ
  header_block = words_of (take 512 image)

  abbrev pub shelf_blocks_of : Sizes → List ℕ
  shelf_blocks_of z = words_of (take (z.items_from - 512) (drop 512 image))

  abbrev pub item_blocks_of : Sizes → List ℕ
  item_blocks_of z = words_of (take (z.end - z.items_from) (drop z.items_from image))

  -- the blocks of both tables' rows are right
  pub record RowsRight (h : Header) (z : Sizes) : Type 0 where
    pub shelves : AllRight (layout_of shelf_rows_of) h.used_shelves 1 z.shelf_blocks (shelf_blocks_of z)
    pub items : AllRight (layout_of item_rows_of) h.used_items (1 + z.shelf_blocks) z.item_blocks (item_blocks_of z)

  -- the header block is right, the length is what the used rows ask for, and so are the blocks of the rows
  pub record Right (z : Sizes) : Type 0 where
    pub header : BlockRight 0 0 1 12 header_block
    pub sized : SizesOf (header_in header_block) z
    pub long : z.end ≡ length image
    pub rows : RowsRight (header_in header_block) z

  -- the numbers of the rows that stand in the blocks
  abbrev pub shelf_numbers : Header → Sizes → List ℕ
  shelf_numbers h z = up_to (held_in_of (layout_of shelf_rows_of) h.used_shelves (shelf_blocks_of z)) z.shelf_blocks

  abbrev pub item_numbers : Header → Sizes → List ℕ
  item_numbers h z = up_to (held_in_of (layout_of item_rows_of) h.used_items (item_blocks_of z)) z.item_blocks

  -- some sizes are right; there is one choice only
  pub record ImageRight : Type 0 where
    pub sizes : Sizes
    pub right : Right sizes
