-- Document 01's "Saved form 1": what it says beside what every form has in common, and the image of a header and rows. Assumes nothing.
use Rattle.std.specs.Prelude.{◌+◌, ◌/◌, ◌%◌, ◌++◌, ◌∷◌}
use Rattle.numbers.specs.Library.{ℕ, List, [], length}
use Rattle.rows.specs.Prelude.{items, shelves}
use Rattle.rows.specs.declared.{header.Header.Header, shelf.ShelfRow.ShelfRow, item.ItemRow.ItemRow}
use Rattle.image_form.specs.Bytes.{bytes_of, total}
use Rattle.image_form.specs.Blocks.{Form, Kind, block, block_count, blocks_of}

-- "2 form, 1; 6-509 data; 510-511 check: the sum of the first 255 16-bit words modulo 65535"
unfoldable pub form1 : Form
unfolding total
form1 = record { number = 1; room = 252; check = λ words. (total words % 65535) ∷ [] }

-- "Kind 0: ten header numbers of 16 bits in the order above, then occupied in 32"
unfoldable pub header_words : Header → List ℕ
header_words h =
    h.limits.width ∷ h.limits.height ∷ h.limits.align_width ∷ h.limits.align_height ∷ h.limits.vertical ∷ h.limits.shelf_width
    ∷ h.used_shelves ∷ h.used_items ∷ h.free_items.0 ∷ h.free_shelves.0 ∷ (h.occupied % 65536) ∷ (h.occupied / 65536) ∷ []

-- "Kind 1: 31 shelf rows a block; kind 2: 28 item rows"
unfoldable pub shelf_rows_of : Kind ShelfRow
shelf_rows_of = record { number = 1; most = 31; shape = shelves }

unfoldable pub item_rows_of : Kind ItemRow
item_rows_of = record { number = 2; most = 28; shape = items }

-- "Kind 0, one block, rows 1 ...; blocks stand in order of kind": the words of the image, then its bytes
unfoldable pub image_words : Header → List ShelfRow → List ItemRow → List ℕ
unfolding form1 header_words shelf_rows_of item_rows_of block block_count blocks_of
image_words h shelf_rows item_rows =
    block form1 0 0 1 (header_words h)
    ++ blocks_of form1 shelf_rows_of 1 shelf_rows
    ++ blocks_of form1 item_rows_of (1 + block_count 31 (length shelf_rows)) item_rows

unfoldable pub image_of : Header → List ShelfRow → List ItemRow → List ℕ
unfolding bytes_of image_words
image_of h shelf_rows item_rows = bytes_of (image_words h shelf_rows item_rows)
