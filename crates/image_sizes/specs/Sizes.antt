-- How large the image of an atlas is: by its used rows alone. Assumes nothing.
use Rattle.std.specs.Prelude.{◌+◌, ◌*◌, ◌<◌, ◌≡◌}
use Rattle.rows.specs.declared.header.Header.{Header}
use Rattle.image_form.specs.Blocks.{block_count}
use Rattle.image_sizes.specs.declared.Sizes.{Sizes}

-- The blocks of each kind, 512 bytes each, after one for the header; and that their numbers have 16 bits, as those of used rows have.
pub record SizesOf (h : Header) (r : Sizes) : Type 0 where
  pub shelf_blocks : r.shelf_blocks ≡ block_count 31 h.used_shelves
  pub item_blocks : r.item_blocks ≡ block_count 28 h.used_items
  pub items_from : r.items_from ≡ 512 + r.shelf_blocks * 512
  pub ends : r.end ≡ r.items_from + r.item_blocks * 512
  pub few_blocks : 1 + r.shelf_blocks + r.item_blocks < 65536
  pub few_shelves : h.used_shelves < 65536
  pub few_items : h.used_items < 65536
