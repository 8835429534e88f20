-- What the tests of an image say: its first block, its length, and the blocks of the rows. Assumes nothing.
use Rattle.std.specs.Prelude.{◌+◌, ◌-◌, ◌*◌, ◌≤◌, ◌<◌, ◌≡◌}
use Rattle.numbers.specs.Library.{ℕ, ap, ◌∙◌, Bool, false, List, length, length-drop, length-take-le, take, drop, arith}
use Rattle.numbers.specs.Prelude.{Decides, refuted}
use Rattle.rows.specs.declared.header.Header.{Header}
use Rattle.image_form.specs.Form1.{shelf_rows_of, item_rows_of}
use Rattle.blocks.specs.Right.{BlockRight}
use Rattle.row_blocks.specs.Layout.{layout_of, AllRight}
use Rattle.image_sizes.specs.Sizes.{SizesOf}
use Rattle.image_sizes.specs.declared.Sizes.{Sizes}
use Rattle.image_read.specs.Right.{header_in, header_block, shelf_blocks_of, item_blocks_of, RowsRight, ImageRight}
use Rattle.image_read.proofs.Standing.{same_sizes}

-- a lent part of n blocks
pub part_of_blocks : (l : List ℕ) (from n to : ℕ) → to ≡ from + n * 512 → to ≤ length l → length (take (to - from) (drop from l)) ≡ n * 512
part_of_blocks l from n to e fit = length-take-le (to - from) (drop from l) (omega (arith, length-drop from l)) ∙ omega arith

module _ (image : List ℕ) where
  module _ (h : Header) (z : Sizes) where
    pub shelves_wrong : (AllRight (layout_of shelf_rows_of) h.used_shelves 1 z.shelf_blocks (shelf_blocks_of image z) → ⊥) → Decides false (RowsRight image h z)
    shelves_wrong n = refuted (λ r. n r.shelves)

    pub items_decide : AllRight (layout_of shelf_rows_of) h.used_shelves 1 z.shelf_blocks (shelf_blocks_of image z) → {test : Bool}
        → Decides test (AllRight (layout_of item_rows_of) h.used_items (1 + z.shelf_blocks) z.item_blocks (item_blocks_of image z)) → Decides test (RowsRight image h z)
    items_decide s d = record { sound = λ t. record { shelves = s; items = d.sound t }; complete = λ r. d.complete r.items }

  pub first_there : ImageRight image → 512 ≤ length image
  first_there r = omega (arith, r.right.long, r.right.sized.ends, r.right.sized.items_from)

  pub too_short : length image < 512 → Decides false (ImageRight image)
  too_short c = refuted (λ r. absurd (omega (arith, r.right.long, r.right.sized.ends, r.right.sized.items_from)))

  pub header_wrong : (BlockRight 0 0 1 12 (header_block image) → ⊥) → Decides false (ImageRight image)
  header_wrong n = refuted (λ r. n r.right.header)

  module _ {h : Header} (is : h ≡ header_in (header_block image)) {z : Sizes} (sized : SizesOf h z) where
    pub ends_there : ImageRight image → z.end ≡ length image
    ends_there r = ap (λ (y : Sizes). y.end) (same_sizes (rw is at sized) r.right.sized) ∙ r.right.long

    pub other_length : (z.end ≡ length image → ⊥) → Decides false (ImageRight image)
    other_length n = refuted (λ r. n (ends_there r))

    pub rows_decide : BlockRight 0 0 1 12 (header_block image) → z.end ≡ length image → {test : Bool} → Decides test (RowsRight image h z) → Decides test (ImageRight image)
    rows_decide b l d = record {
      sound = λ t. record { sizes = z; right = record { header = b; sized = rw is at sized; long = l; rows = rw is at (d.sound t) } };
      complete = λ r. d.complete (rw (is, same_sizes (rw is at sized) r.right.sized) r.right.rows);
    }
