-- Create and clear: rows 0 to C - 1 of both tables written, and the header of a fresh atlas. Assumes nothing.
use Rattle.std.specs.Prelude.{◌+◌, ◌-◌, ◌≡◌}
use Rattle.numbers.specs.Library.{ℕ, zero, suc, refl, ◌∙◌, List, add-one, arith, ltb, length}
use Rattle.numbers.specs.Prelude.{pick, no_row, no_item, no_shelf}
use Rattle.numbers.specs.declared.limits.Limits.{Limits}
use Rattle.rows.specs.Prelude.{Shape, put, length-put, items, with_generation, shelves, zero_shelf, with_shelf_x, with_height, with_shelf_prev, with_shelf_next}
use Rattle.rows.specs.Prelude.{with_first_item, with_first_free, with_empty, zero_header, with_limits, with_used_shelves, with_used_items, with_free_items, with_free_shelves}
use Rattle.rows.specs.declared.{header.Header.Header, item.ItemRow.ItemRow, shelf.ShelfRow.ShelfRow}
use Rattle.wrap.specs.Wrap.{times16}
use Rattle.item_edits.specs.ItemEdits.{lone_item}

-- rows 0 to n - 1 written: row k holds f k
unfoldable pub write_rows : {A : Type 0} → Shape A → (ℕ → A) → ℕ → List ℕ → List ℕ
write_rows s f zero t = t
write_rows s f (suc n) t = put s (write_rows s f n t) n (f n)

-- the rows before and after row k of n
abbrev pub row_before : ℕ → ℕ
row_before zero = no_row
row_before (suc k) = k

unfoldable pub row_after : ℕ → ℕ → ℕ
row_after n k = pick (ltb (k + 1) n) (k + 1) no_row

-- shelf k of n: as deep as the atlas and empty, with its item in row k
unfoldable pub fresh_shelf_row : Limits → ℕ → ℕ → ShelfRow
fresh_shelf_row l n k =
    with_shelf_x (times16 k l.shelf_width) (with_height l.height (with_shelf_prev (record { 0 = row_before k }) (with_shelf_next (record { 0 = row_after n k })
    (with_first_item (record { 0 = k }) (with_first_free (record { 0 = k }) (with_empty 1 zero_shelf))))))

unfoldable pub fresh_item_row : Limits → ℕ → ItemRow
fresh_item_row l k = with_generation 1 (lone_item (times16 k l.shelf_width) l.shelf_width (record { 0 = k }))

unfoldable pub fresh_shelf_table : Limits → ℕ → List ℕ → List ℕ
fresh_shelf_table l n S = write_rows shelves (fresh_shelf_row l n) n S

unfoldable pub fresh_item_table : Limits → ℕ → List ℕ → List ℕ
fresh_item_table l n I = write_rows items (fresh_item_row l) n I

-- n rows of each table are used, none is freed, and nothing is occupied
unfoldable pub fresh_header : Limits → ℕ → Header
fresh_header l n =
    with_limits l (with_used_shelves n (with_used_items n (with_free_items no_item (with_free_shelves no_shelf zero_header))))

pub before_some : (k : ℕ) → (k ≡ 0 → ⊥) → k - 1 ≡ row_before k
before_some zero n = absurd (n refl)
before_some (suc k) n = omega arith

-- ---- a write more, and the length

module _ {A : Type 0} (s : Shape A) (f : ℕ → A) where
  pub write_none : (t : List ℕ) → write_rows s f 0 t ≡ t
  unfolding write_rows
  write_none t = refl

  pub write_more : (n : ℕ) (t : List ℕ) → write_rows s f (n + 1) t ≡ put s (write_rows s f n t) n (f n)
  unfolding write_rows
  write_more n t = rw add-one

  pub length-write_rows : (n : ℕ) (t : List ℕ) → length (write_rows s f n t) ≡ length t
  unfolding write_rows
  length-write_rows zero t = refl
  length-write_rows (suc n) t = length-put s (write_rows s f n t) n (f n) ∙ length-write_rows n t
