-- An image is right exactly when it is the image of a header and rows; and then the header and the rows are those that stand in it. Assumes nothing.
use Rattle.std.specs.Prelude.{◌+◌, ◌-◌, ◌*◌, ◌/◌, ◌%◌, ◌<◌, ◌≡◌, ◌∷◌, ◌++◌}
use Rattle.numbers.specs.Library.{ℕ, suc, refl, sym, ap, ◌∙◌, List, length, length-append, length-drop, length-take-le, get_or, take, drop}
use Rattle.numbers.specs.Library.{arith, append_assoc, dec_lt, drop-cons, take_all}
use lib.Seq.{take_at, drop_at, drop-drop, get_or-take}
use lib.ListN.{take-append-drop, get_or-eq_default}
use Rattle.rows.specs.Prelude.{items, shelves}
use Rattle.rows.specs.declared.{header.Header.Header, shelf.ShelfRow.ShelfRow, item.ItemRow.ItemRow}
use Rattle.image_form.specs.Bytes.{bytes_of, words_of}
use Rattle.image_form.specs.Blocks.{block, up_to, block_count, rows_block, blocks_of}
use Rattle.image_form.specs.Form1.{form1, header_words, shelf_rows_of, item_rows_of, image_words, image_of}
use Rattle.image_form.specs.Tables.{first_rows_of}
use Rattle.image_form.proofs.Words.{length_bytes, words_bytes, bytes_words, length-words, words_take, words_drop, word_at}
use Rattle.image_form.proofs.Tables.{numbers, length-first}
use Rattle.image_form.proofs.Blocks.{block_is, length-block, data_back}
use Rattle.blocks.specs.Right.{BlockRight}
use Rattle.row_blocks.proofs.ByRows.{rows-met, rows_right, numbers_are, length-is}
use Rattle.image_sizes.specs.Sizes.{SizesOf}
use Rattle.image_sizes.specs.declared.Sizes.{Sizes}
use Rattle.image_sizes.proofs.Fitting.{shelves_laid, items_laid}
use Rattle.image_promises.specs.Promises.{Holds}
use Rattle.image_read.specs.Right.{header_in, header_block, shelf_blocks_of, item_blocks_of, RowsRight, Right, shelf_numbers, item_numbers}

-- a header has one choice of sizes
pub same_sizes : {h : Header} {y z : Sizes} → SizesOf h y → SizesOf h z → y ≡ z
same_sizes {h} {y} {z} a b =
    let s : y.shelf_blocks ≡ z.shelf_blocks = a.shelf_blocks ∙ sym b.shelf_blocks in
    let i : y.item_blocks ≡ z.item_blocks = a.item_blocks ∙ sym b.item_blocks in
    let f : y.items_from ≡ z.items_from = a.items_from ∙ rw s (sym b.items_from) in
    let e : y.end ≡ z.end = a.ends ∙ rw (f, i) (sym b.ends) in
    λ t. record { shelf_blocks = s t; item_blocks = i t; items_from = f t; end = e t }

-- ---- the header

-- read back from the block that was made of it, whatever follows
pub header_back : (h : Header) → header_in (block form1 0 0 1 (header_words h)) ≡ h
unfolding header_in header_words
header_back h =
    let o : h.occupied % 65536 + 65536 * (h.occupied / 65536) ≡ h.occupied = omega arith in
    rw (block_is 0 0 1 (header_words h), o)

-- and the words of the header that stands in a block are the block's data, for words of 16 bits
header_words_lem : (words : List ℕ) → length words ≡ 256 → ((i : ℕ) → get_or words i 0 < 65536) → header_words (header_in words) ≡ take 12 (drop 3 words)
unfolding header_in header_words
header_words_lem words long small =
    let a : (get_or words 13 0 + 65536 * get_or words 14 0) % 65536 ≡ get_or words 13 0 = omega (arith, small 13) in
    let b : (get_or words 13 0 + 65536 * get_or words 14 0) / 65536 ≡ get_or words 14 0 = omega (arith, small 13) in
    rw (
      a,
      b,
      at 3 (omega arith),
      at 4 (omega arith),
      at 5 (omega arith),
      at 6 (omega arith),
      at 7 (omega arith),
      at 8 (omega arith),
      at 9 (omega arith),
      at 10 (omega arith),
      at 11 (omega arith),
      at 12 (omega arith),
      at 13 (omega arith),
      at 14 (omega arith),
    ) where
      at : (j : ℕ) → j < 256 → drop j words ≡ get_or words j 0 ∷ drop (suc j) words
      at j c = drop-cons words j 0 (omega arith)

-- the words of bytes have 16 bits
words_small : (bytes : List ℕ) (n : ℕ) → length bytes ≡ 2 * n → ((i : ℕ) → get_or bytes i 0 < 256) → (i : ℕ) → get_or (words_of bytes) i 0 < 65536
words_small bytes n long small i = go (dec_lt i n) where
  go : Dec (i < n) → get_or (words_of bytes) i 0 < 65536
  go (yes c) = omega (arith, word_at bytes i (omega arith), small (2 * i), small (2 * i + 1))
  go (no c) = let e : get_or (words_of bytes) i 0 ≡ 0 = get_or-eq_default (words_of bytes) 0 (omega (arith, length-words bytes)) in omega (arith, e)

-- ---- the parts of an image, in words

module _ (image : List ℕ) {h : Header} {z : Sizes} (is : SizesOf h z) (long : z.end ≡ length image) where
  abbrev words : List ℕ
  words = words_of image

  many : length words ≡ 256 + z.shelf_blocks * 256 + z.item_blocks * 256
  many = length-words image ∙ omega (arith, is.ends, is.items_from)

  header_part : header_block image ≡ take 256 words
  header_part = words_take 256 image

  shelf_part : shelf_blocks_of image z ≡ take (z.shelf_blocks * 256) (drop 256 words)
  shelf_part =
      let e : z.items_from - 512 ≡ 2 * (z.shelf_blocks * 256) = omega (arith, is.items_from) in
      ap (λ (n : ℕ). words_of (take n (drop 512 image))) e ∙ words_take (z.shelf_blocks * 256) (drop 512 image) ∙ ap (take (z.shelf_blocks * 256)) (words_drop 256 image)

  item_part : item_blocks_of image z ≡ drop (256 + z.shelf_blocks * 256) words
  item_part =
      let e : z.end - z.items_from ≡ 2 * (z.item_blocks * 256) = omega (arith, is.ends) in
      let f : z.items_from ≡ 2 * (256 + z.shelf_blocks * 256) = omega (arith, is.items_from) in
      rw (e, f) (words_take (z.item_blocks * 256) (drop (2 * (256 + z.shelf_blocks * 256)) image)
      ∙ ap (take (z.item_blocks * 256)) (words_drop (256 + z.shelf_blocks * 256) image)
      ∙ take_all (z.item_blocks * 256) (drop (256 + z.shelf_blocks * 256) words) (omega (arith, many, length-drop (256 + z.shelf_blocks * 256) words)))

  in_parts : words ≡ (header_block image ++ shelf_blocks_of image z) ++ item_blocks_of image z
  in_parts =
      rw (header_part, shelf_part, item_part)
      (sym (take-append-drop 256 words) ∙ ap (λ (l : List ℕ). take 256 words ++ l) (sym (take-append-drop (z.shelf_blocks * 256) (drop 256 words))
      ∙ ap (λ (l : List ℕ). take (z.shelf_blocks * 256) (drop 256 words) ++ l) (drop-drop (z.shelf_blocks * 256) 256 words))
      ∙ sym (append_assoc (take 256 words) (take (z.shelf_blocks * 256) (drop 256 words)) (drop (256 + z.shelf_blocks * 256) words)))

  pub shelf_words_long : length (shelf_blocks_of image z) ≡ z.shelf_blocks * 256
  shelf_words_long = ap length shelf_part ∙ length-take-le (z.shelf_blocks * 256) (drop 256 words) (omega (arith, many, length-drop 256 words))

  pub item_words_long : length (item_blocks_of image z) ≡ z.item_blocks * 256
  item_words_long = ap length item_part ∙ omega (arith, many, length-drop (256 + z.shelf_blocks * 256) words)

-- ---- an image that is right is the image of what stands in it

module _ (image : List ℕ) (small : (i : ℕ) → get_or image i 0 < 256) {z : Sizes} (r : Right image z) where
  abbrev h : Header
  h = header_in (header_block image)

  abbrev pub shelves_standing : List ShelfRow
  shelves_standing = first_rows_of shelves (shelf_numbers image h z) h.used_shelves

  abbrev pub items_standing : List ItemRow
  items_standing = first_rows_of items (item_numbers image h z) h.used_items

  header_is : header_block image ≡ block form1 0 0 1 (header_words h)
  unfolding BlockRight
  header_is =
      let long : length (take 512 image) ≡ 512 = length-take-le 512 image (omega (arith, r.long, r.sized.ends, r.sized.items_from)) in
      let bytes : (i : ℕ) → get_or (take 512 image) i 0 < 256 = λ i. go i (dec_lt i 512) long in
      r.header ∙ ap (block form1 0 0 1) (sym (header_words_lem (header_block image) (length-words (take 512 image) ∙ omega (arith, long)) (words_small (take 512 image) 256 long bytes))) where
        go : (i : ℕ) → Dec (i < 512) → length (take 512 image) ≡ 512 → get_or (take 512 image) i 0 < 256
        go i (yes c) l = rw (get_or-take 512 image i 0 c) (small i)
        go i (no c) l = let e : get_or (take 512 image) i 0 ≡ 0 = get_or-eq_default (take 512 image) 0 (omega arith) in omega (arith, e)

  shelves_are : blocks_of form1 shelf_rows_of 1 shelves_standing ≡ shelf_blocks_of image z
  unfolding blocks_of shelf_rows_of
  shelves_are =
      rw (length-first shelves (shelf_numbers image h z) h.used_shelves, ← r.sized.shelf_blocks)
      (rows-met shelf_rows_of (shelves_laid r.sized 1 (omega arith)) (shelf_blocks_of image z) (shelf_words_long image r.sized r.long) r.rows.shelves)

  items_are : blocks_of form1 item_rows_of (1 + block_count 31 (length shelves_standing)) items_standing ≡ item_blocks_of image z
  unfolding blocks_of item_rows_of
  items_are =
      rw (length-first shelves (shelf_numbers image h z) h.used_shelves, length-first items (item_numbers image h z) h.used_items, ← r.sized.shelf_blocks, ← r.sized.item_blocks)
      (rows-met item_rows_of (items_laid r.sized (1 + z.shelf_blocks) (omega arith)) (item_blocks_of image z) (item_words_long image r.sized r.long) r.rows.items)

  parts_are : (header_block image ++ shelf_blocks_of image z) ++ item_blocks_of image z ≡ image_words h shelves_standing items_standing
  unfolding image_words
  parts_are =
      ap (λ (l : List ℕ). (l ++ shelf_blocks_of image z) ++ item_blocks_of image z) header_is
      ∙ ap (λ (l : List ℕ). (block form1 0 0 1 (header_words h) ++ l) ++ item_blocks_of image z) (sym shelves_are)
      ∙ ap (λ (l : List ℕ). (block form1 0 0 1 (header_words h) ++ blocks_of form1 shelf_rows_of 1 shelves_standing) ++ l) (sym items_are)

  pub right_holds : Holds image h shelves_standing items_standing
  unfolding image_of image_words
  right_holds = record {
    shelf_count = length-first shelves (shelf_numbers image h z) h.used_shelves;
    item_count = length-first items (item_numbers image h z) h.used_items;
    is = sym (bytes_words image (256 + z.shelf_blocks * 256 + z.item_blocks * 256) (omega (arith, r.long, r.sized.ends, r.sized.items_from)) small)
        ∙ ap bytes_of (in_parts image r.sized r.long ∙ parts_are);
  }

-- ---- the image of a header and rows is right, and they stand in it

pub record Stands (image : List ℕ) (h : Header) (shelf_rows : List ShelfRow) (item_rows : List ItemRow) : Type 0 where
  pub sizes : Sizes
  pub right : Right image sizes
  pub header : header_in (header_block image) ≡ h
  pub shelf_numbers_lem : shelf_numbers image h sizes ≡ numbers shelves shelf_rows
  pub item_numbers_lem : item_numbers image h sizes ≡ numbers items item_rows

module _ (image : List ℕ) (small : (i : ℕ) → get_or image i 0 < 256) {h : Header} {shelf_rows : List ShelfRow} {item_rows : List ItemRow} (has : Holds image h shelf_rows item_rows) where
  abbrev first_block : List ℕ
  first_block = block form1 0 0 1 (header_words h)

  abbrev shelf_words : List ℕ
  shelf_words = blocks_of form1 shelf_rows_of 1 shelf_rows

  abbrev item_words : List ℕ
  item_words = blocks_of form1 item_rows_of (1 + block_count 31 (length shelf_rows)) item_rows

  words_are : words_of image ≡ (first_block ++ shelf_words) ++ item_words
  unfolding image_of image_words
  words_are = ap words_of has.is ∙ words_bytes ((first_block ++ shelf_words) ++ item_words)

  image_long : length image ≡ 2 * length ((first_block ++ shelf_words) ++ item_words)
  unfolding image_of image_words
  image_long = ap length has.is ∙ length_bytes ((first_block ++ shelf_words) ++ item_words)

  first_long : length first_block ≡ 256
  unfolding header_words
  first_long = length-block 0 0 1 (header_words h) (omega arith)

  first_is : header_block image ≡ first_block
  first_is =
      words_take 256 image ∙ ap (take 256) (words_are ∙ append_assoc first_block shelf_words item_words) ∙ take_at first_block (shelf_words ++ item_words) 256 first_long

  header_stands : header_in (header_block image) ≡ h
  header_stands = ap header_in first_is ∙ header_back h

  -- a word of the header block
  small_word : (i : ℕ) → i < 256 → get_or (header_block image) i 0 < 65536
  small_word i c =
      rw (words_take 256 image, get_or-take 256 (words_of image) i 0 c)
      (words_small image (length ((first_block ++ shelf_words) ++ item_words)) image_long small i)

  sizes : Sizes
  sizes = record {
    shelf_blocks = block_count 31 h.used_shelves;
    item_blocks = block_count 28 h.used_items;
    items_from = 512 + block_count 31 h.used_shelves * 512;
    end = 512 + block_count 31 h.used_shelves * 512 + block_count 28 h.used_items * 512;
  }

  sized : SizesOf h sizes
  unfolding sizes block_count header_in
  sized =
      let s : h.used_shelves < 65536 = rw (ap (λ (g : Header). g.used_shelves) header_stands) at (small_word 9 (omega arith)) in
      let i : h.used_items < 65536 = rw (ap (λ (g : Header). g.used_items) header_stands) at (small_word 10 (omega arith)) in
      record { shelf_blocks = refl; item_blocks = refl; items_from = refl; ends = refl; few_blocks = omega arith; few_shelves = s; few_items = i }

  shelf_words_are : shelf_words ≡ up_to (rows_block form1 shelf_rows_of 1 shelf_rows) sizes.shelf_blocks
  unfolding sizes blocks_of shelf_rows_of
  shelf_words_are = rw has.shelf_count

  item_words_are : item_words ≡ up_to (rows_block form1 item_rows_of (1 + sizes.shelf_blocks) item_rows) sizes.item_blocks
  unfolding sizes blocks_of item_rows_of
  item_words_are = rw (has.shelf_count, has.item_count)

  shelf_long : length shelf_words ≡ sizes.shelf_blocks * 256
  shelf_long = length-is shelf_rows_of (shelves_laid sized 1 (omega arith)) shelf_rows has.shelf_count shelf_words shelf_words_are

  item_long : length item_words ≡ sizes.item_blocks * 256
  item_long = length-is item_rows_of (items_laid sized (1 + sizes.shelf_blocks) (omega arith)) item_rows has.item_count item_words item_words_are

  ends_there : sizes.end ≡ length image
  ends_there =
      sym (image_long ∙ omega (arith, length-append (first_block ++ shelf_words) item_words, length-append first_block shelf_words, first_long, shelf_long, item_long, sized.ends, sized.items_from))

  shelves_stand : shelf_blocks_of image sizes ≡ shelf_words
  shelves_stand =
      shelf_part image sized ends_there
      ∙ ap (λ (l : List ℕ). take (sizes.shelf_blocks * 256) (drop 256 l)) (words_are ∙ append_assoc first_block shelf_words item_words)
      ∙ ap (take (sizes.shelf_blocks * 256)) (drop_at first_block (shelf_words ++ item_words) 256 first_long)
      ∙ take_at shelf_words item_words (sizes.shelf_blocks * 256) shelf_long

  items_stand : item_blocks_of image sizes ≡ item_words
  items_stand =
      item_part image sized ends_there ∙ ap (drop (256 + sizes.shelf_blocks * 256)) words_are
      ∙ drop_at (first_block ++ shelf_words) item_words (256 + sizes.shelf_blocks * 256) (length-append first_block shelf_words ∙ omega (arith, first_long, shelf_long))

  first_right : BlockRight 0 0 1 12 (header_block image)
  unfolding BlockRight header_words
  first_right = first_is ∙ ap (block form1 0 0 1) (sym (ap (λ (l : List ℕ). take 12 (drop 3 l)) first_is ∙ data_back 0 0 1 (header_words h) 12 refl))

  right_rows : RowsRight image h sizes
  right_rows = record {
    shelves = rows_right shelf_rows_of (shelves_laid sized 1 (omega arith)) shelf_rows has.shelf_count (shelf_blocks_of image sizes) (shelves_stand ∙ shelf_words_are);
    items = rows_right item_rows_of (items_laid sized (1 + sizes.shelf_blocks) (omega arith)) item_rows has.item_count (item_blocks_of image sizes) (items_stand ∙ item_words_are);
  }

  pub holds_stands : Stands image h shelf_rows item_rows
  unfolding shelf_rows_of item_rows_of
  holds_stands = record {
    sizes = sizes;
    right = record { header = first_right; sized = rw header_stands sized; long = ends_there; rows = rw header_stands right_rows };
    header = header_stands;
    shelf_numbers_lem = numbers_are shelf_rows_of (shelves_laid sized 1 (omega arith)) shelf_rows has.shelf_count (shelf_blocks_of image sizes) (shelves_stand ∙ shelf_words_are);
    item_numbers_lem = numbers_are item_rows_of (items_laid sized (1 + sizes.shelf_blocks) (omega arith)) item_rows has.item_count (item_blocks_of image sizes) (items_stand ∙ item_words_are);
  }
