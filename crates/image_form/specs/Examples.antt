-- Images computed: the atlas of 100 x 40 with one live item 30 wide, a free one beside it and a freed row, as `image_runs/make.py` saves it; and counts of
-- blocks at their limits. Assumes nothing.
use Rattle.std.specs.Prelude.{◌≡◌, ◌∷◌}
use Rattle.numbers.specs.Library.{ℕ, refl, List, [], length, take, drop}
use Rattle.numbers.specs.Prelude.{no_row}
use Rattle.rows.specs.Prelude.{shelf_of, item_of, items, shelves}
use Rattle.rows.specs.Header.{header_of}
use Rattle.rows.specs.declared.{header.Header.Header, shelf.ShelfRow.ShelfRow, item.ItemRow.ItemRow}
use Rattle.image_form.specs.Bytes.{bytes_of, total}
use Rattle.image_form.specs.Blocks.{front, block, block_count, rows_block, blocks_of}
use Rattle.image_form.specs.Form1.{form1, header_words, shelf_rows_of, item_rows_of, image_words, image_of}

header : Header
header = header_of (100 ∷ 40 ∷ 1 ∷ 1 ∷ 0 ∷ 100 ∷ 1 ∷ 3 ∷ 2 ∷ no_row ∷ 1200 ∷ [])

shelf_rows : List ShelfRow
shelf_rows = shelf_of (0 ∷ 0 ∷ 40 ∷ no_row ∷ no_row ∷ 0 ∷ 1 ∷ 0 ∷ []) ∷ []

item_rows : List ItemRow
item_rows =
    item_of (0 ∷ 30 ∷ no_row ∷ 1 ∷ no_row ∷ no_row ∷ 0 ∷ 1 ∷ 1 ∷ []) ∷ item_of (30 ∷ 70 ∷ 0 ∷ no_row ∷ no_row ∷ no_row ∷ 0 ∷ 0 ∷ 1 ∷ [])
    ∷ item_of (0 ∷ 0 ∷ 0 ∷ no_row ∷ 0 ∷ 0 ∷ 0 ∷ 0 ∷ 3 ∷ []) ∷ []

unfoldable pub image : List ℕ
unfolding image_of header shelf_rows item_rows
image = image_of header shelf_rows item_rows

-- three blocks; of each the heading and what follows, and the check
pub one_atlas : (length image ≡ 1536)
    × (take 32 image ≡ 0 ∷ 0 ∷ 1 ∷ 0 ∷ 1 ∷ 0 ∷ 100 ∷ 0 ∷ 40 ∷ 0 ∷ 1 ∷ 0 ∷ 1 ∷ 0 ∷ 0 ∷ 0 ∷ 100 ∷ 0 ∷ 1 ∷ 0 ∷ 3 ∷ 0 ∷ 2 ∷ 0 ∷ 255 ∷ 255 ∷ 176 ∷ 4 ∷ 0 ∷ 0 ∷ 0 ∷ 0 ∷ [])
    × (take 2 (drop 510 image) ≡ 170 ∷ 5 ∷ [])
    × (take 24 (drop 512 image) ≡ 1 ∷ 0 ∷ 1 ∷ 1 ∷ 1 ∷ 0 ∷ 0 ∷ 0 ∷ 0 ∷ 0 ∷ 40 ∷ 0 ∷ 255 ∷ 255 ∷ 255 ∷ 255 ∷ 0 ∷ 0 ∷ 1 ∷ 0 ∷ 0 ∷ 0 ∷ 0 ∷ 0 ∷ [])
    × (take 2 (drop 1022 image) ≡ 44 ∷ 1 ∷ [])
    × (take 6 (drop 1024 image) ≡ 2 ∷ 0 ∷ 1 ∷ 2 ∷ 3 ∷ 0 ∷ [])
    × (drop 1534 image ≡ 143 ∷ 2 ∷ [])
unfolding image image_of image_words bytes_of total front block block_count rows_block blocks_of form1 header_words shelf_rows_of item_rows_of items shelves header shelf_rows item_rows
one_atlas = (refl, refl, refl, refl, refl, refl, refl)

-- how many blocks rows take: none for none, and one more where one is full
pub counts : (block_count 31 0 ≡ 0) × (block_count 31 31 ≡ 1) × (block_count 31 32 ≡ 2) × (block_count 28 28 ≡ 1) × (block_count 28 29 ≡ 2) × (block_count 31 65535 ≡ 2115) × (block_count 28 65535 ≡ 2341)
unfolding block_count
counts = (refl, refl, refl, refl, refl, refl, refl)
