-- The blocks of a kind, by rows and by numbers alone: what code writes, judges and copies is what the form says of the rows. Assumes nothing.
use Rattle.std.specs.Prelude.{◌+◌, ◌-◌, ◌*◌, ◌≤◌, ◌<◌, ◌≡◌}
use Rattle.numbers.specs.Library.{ℕ, zero, suc, min, refl, sym, ap, ◌∙◌, List, length, take, drop, arith, suc-mul}
use Rattle.numbers.specs.Library.{length-take, length-drop, take_all, dec_lt}
use lib.Seq.{take-add}
use native.Mathlib.Nat.{mul_assoc, min-eq_left, min-eq_right}
use Rattle.rows.specs.Prelude.{Shape, rows, fit_rows}
use Rattle.image_form.specs.Blocks.{Kind, block, up_to, rows_of_block, rows_block}
use Rattle.image_form.specs.Form1.{form1}
use Rattle.image_form.specs.Tables.{first_rows_of}
use Rattle.image_form.proofs.Written.{part_take}
use Rattle.image_form.proofs.Pieces.{same_up_to, length-up_to, piece_at, up_to-is}
use Rattle.image_form.proofs.Tables.{numbers, length-numbers, numbers_append, numbers_take, numbers_drop, length-first, numbers_first}
use Rattle.image_form.proofs.Blocks.{length-block, data_back}
use Rattle.blocks.specs.Right.{BlockRight}
use Rattle.row_blocks.specs.Layout.{layout_of, Laid, rows_in_of, numbers_held, table_block, RightAt, AllRight, held_in_of}
use Rattle.row_blocks.proofs.Places.{place, length-held, held_full, met_all}

take_min : {A : Type 0} (m : ℕ) (l : List A) → take m l ≡ take (min m (length l)) l
take_min m l = go (dec_lt (length l) m) where
  go : Dec (length l < m) → take m l ≡ take (min m (length l)) l
  go (yes c) = let e : min m (length l) ≡ length l = min-eq_right (omega arith) in rw e (take_all m l (omega arith) ∙ sym (take_all (length l) l (omega arith)))
  go (no c) = let e : min m (length l) ≡ m = min-eq_left (omega arith) in rw e

module _ {A : Type 0} (k : Kind A) {first used n : ℕ} (l : Laid (layout_of k) first used n) where
  abbrev s : Shape A
  s = k.shape

  -- how many rows a block has, and how many numbers
  rows_long : (rs : List A) → length rs ≡ used → (b : ℕ) → length (rows_of_block form1 k rs b) ≡ rows_in_of (layout_of k) used b
  unfolding rows_in_of layout_of
  rows_long rs e b = length-take k.most (drop (b * k.most) rs) ∙ ap (min k.most) (length-drop (b * k.most) rs ∙ ap (λ (m : ℕ). m - b * k.most) e)

  numbers_long : (rs : List A) → length rs ≡ used → (b : ℕ) → length (numbers s (rows_of_block form1 k rs b)) ≡ numbers_held (layout_of k) used b
  unfolding numbers_held layout_of
  numbers_long rs e b = length-numbers s (rows_of_block form1 k rs b) ∙ ap (λ (m : ℕ). m * s.width) (rows_long rs e b)

  -- ---- written: the block of a table's rows

  module _ (table : List ℕ) (fit : used ≤ rows s table) where
    part : (b : ℕ) → b < n → numbers s (rows_of_block form1 k (first_rows_of s table used) b) ≡ take (numbers_held (layout_of k) used b) (drop (b * k.most * s.width) table)
    unfolding numbers_held layout_of
    part b c =
        let rs : List A = first_rows_of s table used in
        let r : ℕ = rows_in_of (layout_of k) used b in
        let few : take k.most (drop (b * k.most) rs) ≡ take r (drop (b * k.most) rs) =
        take_min k.most (drop (b * k.most) rs)
        ∙ ap (λ (m : ℕ). take m (drop (b * k.most) rs)) (sym (length-take k.most (drop (b * k.most) rs)) ∙ rows_long rs (length-first s table used) b) in
        ap (numbers s) few ∙ numbers_take s r (drop (b * k.most) rs) ∙ ap (take (r * s.width)) (numbers_drop s (b * k.most) rs
        ∙ ap (drop (b * k.most * s.width)) (numbers_first s table used fit))
        ∙ part_take (r * s.width) (b * k.most * s.width) (used * s.width) table (place l b c).ends

    one_block : (b : ℕ) → b < n → rows_block form1 k first (first_rows_of s table used) b ≡ table_block (layout_of k) used first table b
    unfolding rows_block table_block layout_of
    one_block b c = rw (rows_long (first_rows_of s table used) (length-first s table used) b, part b c)

    pub table_blocks : up_to (rows_block form1 k first (first_rows_of s table used)) n ≡ up_to (table_block (layout_of k) used first table) n
    table_blocks = same_up_to _ _ n one_block

  -- ---- met: blocks that are right are those of the rows that stand in them

  module _ (words : List ℕ) (long : length words ≡ n * 256) where
    -- the numbers that stand there, and the rows
    abbrev pub met : List ℕ
    met = up_to (held_in_of (layout_of k) used words) n

    abbrev pub rows_met : List A
    rows_met = first_rows_of s met used

    met_fit : used ≤ rows s met
    unfolding layout_of
    met_fit = go used refl where
      go : (u : ℕ) → u ≡ used → u ≤ rows s met
      go zero e = omega arith
      go (suc u) e = fit_rows s met u (omega (arith, l.few_rows)) (omega (arith, suc-mul u s.width, ap (λ (m : ℕ). m * s.width) e, met_all l words long))

    -- the data of block b stands in its place among the numbers
    held_there : (b : ℕ) → b < n → take (numbers_held (layout_of k) used b) (drop (b * k.most * s.width) met) ≡ held_in_of (layout_of k) used words b
    unfolding numbers_held layout_of
    held_there b c =
        rw (← (length-held l words long b c), mul_assoc b k.most s.width)
        (piece_at (held_in_of (layout_of k) used words) (k.most * s.width) n b c (λ j d. held_full l words long j d))

    pub rows-met : AllRight (layout_of k) used first n words → up_to (rows_block form1 k first rows_met) n ≡ words
    unfolding AllRight RightAt BlockRight table_block held_in_of layout_of
    rows-met right = table_blocks met met_fit ∙ up_to-is (table_block (layout_of k) used first met) 256 words n long one where
      one : (b : ℕ) → b < n → take 256 (drop (b * 256) words) ≡ table_block (layout_of k) used first met b
      one b c = right b c ∙ ap (block form1 (first + b) (layout_of k).kind (rows_in_of (layout_of k) used b)) (sym (held_there b c))

  -- ---- and the blocks of rows are right, with the rows' numbers in them

  module _ (rs : List A) (count : length rs ≡ used) (words : List ℕ) (is : words ≡ up_to (rows_block form1 k first rs) n) where
    few : (b : ℕ) → b < n → length (numbers s (rows_of_block form1 k rs b)) ≤ 252
    unfolding numbers_held layout_of
    few b c = omega (arith, numbers_long rs count b, (place l b c).held)

    block_long : (b : ℕ) → b < n → length (rows_block form1 k first rs b) ≡ 256
    unfolding rows_block
    block_long b c = length-block (first + b) k.number (length (rows_of_block form1 k rs b)) (numbers s (rows_of_block form1 k rs b)) (few b c)

    pub length-is : length words ≡ n * 256
    length-is = ap length is ∙ length-up_to (rows_block form1 k first rs) 256 n block_long

    block_at : (b : ℕ) → b < n → take 256 (drop (b * 256) words) ≡ rows_block form1 k first rs b
    block_at b c =
        ap (λ (t : List ℕ). take 256 (drop (b * 256) t)) is
        ∙ rw (block_long b c) at (piece_at (rows_block form1 k first rs) 256 n b c (λ j d. block_long j (omega arith)))

    held_is : (b : ℕ) → b < n → held_in_of (layout_of k) used words b ≡ numbers s (rows_of_block form1 k rs b)
    unfolding held_in_of rows_block
    held_is b c =
        ap (λ (t : List ℕ). take (numbers_held (layout_of k) used b) (drop 3 t)) (block_at b c)
        ∙ data_back (first + b) k.number (length (rows_of_block form1 k rs b)) (numbers s (rows_of_block form1 k rs b)) (numbers_held (layout_of k) used b) (numbers_long rs count b)

    pub rows_right : AllRight (layout_of k) used first n words
    unfolding AllRight RightAt BlockRight rows_block held_in_of layout_of
    rows_right b c =
        block_at b c ∙ ap (λ (r : ℕ). block form1 (first + b) k.number r (numbers s (rows_of_block form1 k rs b))) (rows_long rs count b)
        ∙ ap (block form1 (first + b) k.number (rows_in_of (layout_of k) used b)) (sym (held_is b c))

    pub numbers_are : up_to (held_in_of (layout_of k) used words) n ≡ numbers s rs
    unfolding layout_of
    numbers_are = same_up_to _ _ n held_is ∙ front n ∙ ap (numbers s) (take_all (n * k.most) rs (omega (arith, count, l.all_held))) where
      front : (m : ℕ) → up_to (λ b. numbers s (rows_of_block form1 k rs b)) m ≡ numbers s (take (m * k.most) rs)
      front zero = let z : 0 * k.most ≡ 0 = omega arith in rw z
      front (suc m) =
          rw (front m, suc-mul m k.most, take-add (m * k.most) k.most rs)
          (sym (numbers_append s (take (m * k.most) rs) (take k.most (drop (m * k.most) rs))))
