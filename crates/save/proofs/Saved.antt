-- The image of an atlas by its three parts, as they are written: the header block, the shelf rows' blocks, the item rows'. And the promise of save from what
-- the code has seen. Assumes nothing.
use Rattle.std.specs.Prelude.{◌+◌, ◌-◌, ◌*◌, ◌≤◌, ◌<◌, ◌≡◌, ◌++◌, Ok, Err}
use Rattle.numbers.specs.Library.{ℕ, refl, sym, ap, ◌∙◌, Bool, true, false, not, List, length, length-append, length-drop, length-take-le, take, drop, arith}
use Rattle.numbers.specs.Library.{ltb, lt-ltb, le-ltb}
use Rattle.numbers.specs.Prelude.{Decides, denied}
use Rattle.numbers.specs.declared.refusal.Refusal.TheVariants as refusal
use Rattle.rows.specs.Prelude.{rows, items, shelves}
use Rattle.rows.specs.declared.header.Header.{Header}
use Rattle.rules.specs.Prelude.{Passes, gives, mapped}
use Rattle.rules.specs.Promise as judged
use Rattle.promises.specs.Answers.{says, numbers_of}
use Rattle.image_form.specs.Bytes.{bytes_of, over}
use Rattle.image_form.specs.Blocks.{Kind, block, up_to, block_count, blocks_of}
use Rattle.image_form.specs.Form1.{form1, header_words, shelf_rows_of, item_rows_of, image_words, image_of}
use Rattle.image_form.specs.Tables.{first_rows_of}
use Rattle.image_form.proofs.Words.{length_bytes, bytes_append}
use Rattle.image_form.proofs.Written.{Written, length-written, written_first, written_to}
use Rattle.image_form.proofs.Tables.{length-first}
use Rattle.image_form.proofs.Blocks.{length-block}
use Rattle.row_blocks.specs.Layout.{layout_of, Laid, table_block}
use Rattle.row_blocks.proofs.Places.{length_blocks}
use Rattle.row_blocks.proofs.ByRows.{table_blocks}
use Rattle.image_sizes.specs.Sizes.{SizesOf}
use Rattle.image_sizes.specs.declared.Sizes.{Sizes}
use Rattle.image_sizes.proofs.Fitting.{shelves_laid, items_laid}
use Rattle.image_promises.specs.Promises.{saved_image, written, saving_says, saving_numbers, save_numbers, output_after, SavedSo, Saves, HasRows}

-- a kind's blocks of a table's first rows, in numbers
by_numbers : {A : Type 0} (k : Kind A) {first used n : ℕ} → Laid (layout_of k) first used n → n ≡ block_count k.most used → (table : List ℕ) → used ≤ rows k.shape table
    → blocks_of form1 k first (first_rows_of k.shape table used) ≡ up_to (table_block (layout_of k) used first table) n
unfolding blocks_of
by_numbers k {first} {used} {n} l e table fit = rw (length-first k.shape table used, ← e) (table_blocks k l table fit)

-- a lent part of n blocks
part_of_blocks : (l : List ℕ) (from n to : ℕ) → to ≡ from + n * 512 → to ≤ length l → length (take (to - from) (drop from l)) ≡ n * 512
part_of_blocks l from n to e fit = length-take-le (to - from) (drop from l) (omega (arith, length-drop from l)) ∙ omega arith

module _ (h : Header) {z : Sizes} (is : SizesOf h z) (S I : List ℕ) (has : HasRows h S I) where
  abbrev header_block : List ℕ
  header_block = block form1 0 0 1 (header_words h)

  abbrev shelf_blocks_of : List ℕ
  shelf_blocks_of = up_to (table_block (layout_of shelf_rows_of) h.used_shelves 1 S) z.shelf_blocks

  abbrev item_blocks_of : List ℕ
  item_blocks_of = up_to (table_block (layout_of item_rows_of) h.used_items (1 + z.shelf_blocks) I) z.item_blocks

  shelf_words : blocks_of form1 shelf_rows_of 1 (first_rows_of shelves S h.used_shelves) ≡ shelf_blocks_of
  unfolding shelf_rows_of
  shelf_words = by_numbers shelf_rows_of (shelves_laid is 1 (omega arith)) is.shelf_blocks S has.shelf_room

  item_words : blocks_of form1 item_rows_of (1 + block_count 31 (length (first_rows_of shelves S h.used_shelves))) (first_rows_of items I h.used_items)
      ≡ item_blocks_of
  unfolding item_rows_of
  item_words =
      rw (length-first shelves S h.used_shelves, ← is.shelf_blocks)
      (by_numbers item_rows_of (items_laid is (1 + z.shelf_blocks) (omega arith)) is.item_blocks I has.item_room)

  saved_parts : saved_image h S I ≡ (bytes_of header_block ++ bytes_of shelf_blocks_of) ++ bytes_of item_blocks_of
  unfolding saved_image image_of image_words
  saved_parts =
      rw (shelf_words, item_words)
      (bytes_append (header_block ++ shelf_blocks_of) item_blocks_of
      ∙ ap (λ (l : List ℕ). l ++ bytes_of item_blocks_of) (bytes_append header_block shelf_blocks_of))

  module _ (out head shelf-bytes item-bytes : List ℕ) (fit : z.end ≤ length out) where
    abbrev first : List ℕ
    first = head ++ drop 512 out

    abbrev second : List ℕ
    second = take 512 first ++ (shelf-bytes ++ drop (z.items_from - 512) (drop 512 first))

    abbrev third : List ℕ
    third = take z.items_from second ++ (item-bytes ++ drop (z.end - z.items_from) (drop z.items_from second))

    module _ (a : head ≡ bytes_of header_block) where
      header_written : Written out head 512 first
      unfolding header_words
      header_written = written_first out head 512 (ap length a ∙ length_bytes header_block ∙ omega (arith, length-block 0 0 1 (header_words h) (omega arith)))

      -- what is lent for the shelf rows' blocks, and then for the item rows'
      pub shelves_lent : length (take (z.items_from - 512) (drop 512 first)) ≡ z.shelf_blocks * 512
      shelves_lent = part_of_blocks first 512 z.shelf_blocks z.items_from is.items_from (omega (arith, length-written header_written, is.items_from, is.ends))

      module _ (b : shelf-bytes ≡ bytes_of shelf_blocks_of) where
        shelves_written : Written out (head ++ shelf-bytes) z.items_from second
        shelves_written =
            written_to header_written shelf-bytes (z.items_from - 512) z.items_from
            (ap length b ∙ length_bytes shelf_blocks_of ∙ omega (arith, is.items_from, length_blocks (layout_of shelf_rows_of) 1 h.used_shelves S (shelves_laid is 1 (omega arith)) z.shelf_blocks (omega arith)))
            (omega (arith, is.items_from))

        pub items_lent : length (take (z.end - z.items_from) (drop z.items_from second)) ≡ z.item_blocks * 512
        items_lent = part_of_blocks second z.items_from z.item_blocks z.end is.ends (omega (arith, length-written shelves_written, is.ends))

        pub image_written : item-bytes ≡ bytes_of item_blocks_of → third ≡ over (saved_image h S I) out
        image_written c =
            let w : Written out (saved_image h S I) z.end third =
            rw (saved_parts, ← a, ← b, ← c) (written_to shelves_written item-bytes (z.end - z.items_from) z.end
            (ap length c ∙ length_bytes item_blocks_of ∙ omega (arith, is.ends, length_blocks (layout_of item_rows_of) (1 + z.shelf_blocks) h.used_items I (items_laid is (1 + z.shelf_blocks) (omega arith)) z.item_blocks (omega arith)))
            (omega (arith, is.ends))) in
            w.is ∙ ap (λ (n : ℕ). saved_image h S I ++ drop n out) (sym w.long)

  pub length_saved : length (saved_image h S I) ≡ z.end
  unfolding header_words
  length_saved =
      ap length saved_parts ∙ length-append (bytes_of header_block ++ bytes_of shelf_blocks_of) (bytes_of item_blocks_of)
      ∙ omega (
        arith,
        length-append (bytes_of header_block) (bytes_of shelf_blocks_of),
        length_bytes header_block,
        length-block 0 0 1 (header_words h) (omega arith),
        length_bytes shelf_blocks_of,
        length_bytes item_blocks_of,
        length_blocks (layout_of shelf_rows_of) 1 h.used_shelves S (shelves_laid is 1 (omega arith)) z.shelf_blocks (omega arith),
        length_blocks (layout_of item_rows_of) (1 + z.shelf_blocks) h.used_items I (items_laid is (1 + z.shelf_blocks) (omega arith)) z.item_blocks (omega arith),
        is.items_from,
        is.ends,
      )

-- ---- 3, 10, and the image

pub saves_3 : (h : Header) (S I : List ℕ) {test : Bool} → Decides test (Passes h S I) → not test ≡ true → (out : List ℕ) → Saves h S I out (Err refusal.Audit) out
unfolding Saves saving_says says mapped saving_numbers numbers_of save_numbers output_after
saves_3 h S I d e out = judged.fails (denied d e) (record { says = refl; numbers = refl; output = refl })

module _ (h : Header) {z : Sizes} (is : SizesOf h z) (S I : List ℕ) (p : Passes h S I) (out : List ℕ) where
  pub has_rows_lem : HasRows h S I
  has_rows_lem = record { shelf_room = p.rule1.shelves_fit; item_room = p.rule1.items_fit }

  long : length (saved_image h S I) ≡ z.end
  long = length_saved h is S I has_rows_lem

  pub saves_short : length out < z.end → Saves h S I out (Err refusal.TooShort) out
  unfolding Saves written saving_says says mapped saving_numbers numbers_of save_numbers output_after
  saves_short b = judged.passes p (rw (long, lt-ltb (length out) z.end b) (record { says = refl; numbers = refl; output = refl }))

  pub saves_all : z.end ≤ length out → (out' : List ℕ) → out' ≡ over (saved_image h S I) out → Saves h S I out (Ok z.end) out'
  unfolding Saves written saving_says says mapped saving_numbers numbers_of save_numbers output_after
  saves_all b out' e = judged.passes p (pick_no_rewritten) where
    pick_no_rewritten : SavedSo out (Ok z.end) out' (written (length out) (saved_image h S I))
    pick_no_rewritten =
        let t : ltb (length out) (length (saved_image h S I)) ≡ false = le-ltb (length out) (length (saved_image h S I)) (rw long b) in
        rw t (record { says = ap gives (sym long); numbers = rw long refl; output = e })
