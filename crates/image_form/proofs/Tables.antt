-- The first rows of a table and their numbers: they tell each other, and rows that are stored are the first rows of the table after that. Assumes nothing.
use Rattle.std.specs.Prelude.{◌+◌, ◌-◌, ◌*◌, ◌≤◌, ◌<◌, ◌≡◌, ◌++◌, ◌∷◌}
use Rattle.numbers.specs.Library.{ℕ, zero, suc, refl, sym, ap, ◌∙◌, List, [], append_assoc, append-nil, length, length-append, take, drop}
use Rattle.numbers.specs.Library.{length-drop, length-take-le, arith, suc-mul, dec_lt}
use native.Mathlib.Nat.{add-sub_cancel_left}
use lib.Seq.{take_at, drop_at, take-add, take-append-add, drop-append-add, take-nil, drop-nil}
use Rattle.rows.specs.Prelude.{Shape, rows, get, put, rows_long, rows_fit, put_there}
use Rattle.rows.specs.Row.{get_in}
use Rattle.chains.specs.Prelude.{gather}
use Rattle.image_form.specs.Bytes.{over}
use Rattle.image_form.specs.Tables.{first_rows_of, stored_from}
use Rattle.image_form.proofs.Written.{Written, length-written, written_none, written_to}

-- two lists put together of parts that are as long
pub same_parts : {A : Type 0} (a b c d : List A) → length a ≡ length c → a ++ b ≡ c ++ d → (a ≡ c) × (b ≡ d)
same_parts a b c d e s = (
  sym (take_at a b (length a) refl) ∙ ap (take (length a)) s ∙ take_at c d (length a) (sym e),
  sym (drop_at a b (length a) refl) ∙ ap (drop (length a)) s ∙ drop_at c d (length a) (sym e),
)

module _ {A : Type 0} (s : Shape A) where
  -- the numbers of rows, one row after the other
  abbrev pub numbers : List A → List ℕ
  numbers rs = gather s.numbers rs

  pub length-numbers : (rs : List A) → length (numbers rs) ≡ length rs * s.width
  length-numbers [] = omega arith
  length-numbers (r ∷ rs) = length-append (s.numbers r) (numbers rs) ∙ omega (arith, s.long r, length-numbers rs, suc-mul (length rs) s.width)

  pub numbers_append : (rs ts : List A) → numbers (rs ++ ts) ≡ numbers rs ++ numbers ts
  numbers_append [] ts = refl
  numbers_append (r ∷ rs) ts = rw (numbers_append rs ts) (sym (append_assoc (s.numbers r) (numbers rs) (numbers ts)))

  pub numbers_take : (n : ℕ) (rs : List A) → numbers (take n rs) ≡ take (n * s.width) (numbers rs)
  numbers_take zero rs = let e : 0 * s.width ≡ 0 = omega arith in rw e
  numbers_take (suc n) [] = sym (take-nil (suc n * s.width))
  numbers_take (suc n) (r ∷ rs) =
      let e : suc n * s.width ≡ length (s.numbers r) + n * s.width = omega (arith, suc-mul n s.width, s.long r) in
      rw (e, take-append-add (s.numbers r) (numbers rs) (n * s.width), numbers_take n rs)

  pub numbers_drop : (n : ℕ) (rs : List A) → numbers (drop n rs) ≡ drop (n * s.width) (numbers rs)
  numbers_drop zero rs = let e : 0 * s.width ≡ 0 = omega arith in rw e
  numbers_drop (suc n) [] = sym (drop-nil (suc n * s.width))
  numbers_drop (suc n) (r ∷ rs) =
      let e : suc n * s.width ≡ length (s.numbers r) + n * s.width = omega (arith, suc-mul n s.width, s.long r) in
      rw (e, drop-append-add (s.numbers r) (numbers rs) (n * s.width)) (numbers_drop n rs)

  -- as many rows with the same numbers are the same
  pub same_numbers : (rs ts : List A) → length rs ≡ length ts → numbers rs ≡ numbers ts → rs ≡ ts
  same_numbers [] [] e same = refl
  same_numbers [] (t ∷ ts) e same = absurd (omega arith)
  same_numbers (r ∷ rs) [] e same = absurd (omega arith)
  same_numbers (r ∷ rs) (t ∷ ts) e same =
      let (head, rest) = same_parts (s.numbers r) (numbers rs) (s.numbers t) (numbers ts) (s.long r ∙ sym (s.long t)) same in
      let one : r ≡ t = sym (s.back r) ∙ ap s.value head ∙ s.back t in
      rw (one, same_numbers rs ts (omega arith) rest)

  -- ---- the first rows of a table

  pub length-first : (l : List ℕ) (n : ℕ) → length (first_rows_of s l n) ≡ n
  unfolding first_rows_of
  length-first l zero = refl
  length-first l (suc n) = length-append (first_rows_of s l n) (get s l n ∷ []) ∙ omega (arith, length-first l n)

  pub numbers_first : (l : List ℕ) (n : ℕ) → n ≤ rows s l → numbers (first_rows_of s l n) ≡ take (n * s.width) l
  unfolding first_rows_of
  numbers_first l zero b = let e : 0 * s.width ≡ 0 = omega arith in rw e
  numbers_first l (suc n) b =
      let row : numbers (get s l n ∷ []) ≡ take s.width (drop (n * s.width) l) =
      append-nil (s.numbers (get s l n)) ∙ ap s.numbers (get_in s l n b)
      ∙ s.forth (take s.width (drop (n * s.width) l)) (length-take-le s.width (drop (n * s.width) l) (omega (arith, rows_fit s l n b, length-drop (n * s.width) l))) in
      numbers_append (first_rows_of s l n) (get s l n ∷ []) ∙ rw (suc-mul n s.width, take-add (n * s.width) s.width l, row, numbers_first l n (omega arith))

  -- rows that are among the first are told by them
  pub same_first : (l t : List ℕ) (n : ℕ) → first_rows_of s l n ≡ first_rows_of s t n → (i : ℕ) → i < n → get s l i ≡ get s t i
  unfolding first_rows_of
  same_first l t zero e i b = absurd (omega arith)
  same_first l t (suc n) e i b = go (dec_lt i n) (λ c. same_first l t n parts.0 i c) where
    parts : (first_rows_of s l n ≡ first_rows_of s t n) × (get s l n ∷ [] ≡ get s t n ∷ [])
    parts = same_parts (first_rows_of s l n) (get s l n ∷ []) (first_rows_of s t n) (get s t n ∷ []) (length-first l n ∙ sym (length-first t n)) e

    go : Dec (i < n) → (i < n → get s l i ≡ get s t i) → get s l i ≡ get s t i
    go (yes c) before = before c
    go (no c) before = let same : i ≡ n = omega arith in rw same (cc parts.1)

  -- ---- rows stored

  -- a table has the numbers of all its rows
  pub rows_hold : (l : List ℕ) (n : ℕ) → n ≤ rows s l → n * s.width ≤ length l
  rows_hold l zero b = omega arith
  rows_hold l (suc n) b = omega (arith, rows_fit s l n b, suc-mul n s.width)

  stored_written : (rs : List A) (i : ℕ) {old front now : List ℕ} → i + length rs ≤ rows s old → Written old front (i * s.width) now
      → Written old (front ++ numbers rs) ((i + length rs) * s.width) (stored_from s i rs now)
  unfolding stored_from
  stored_written [] i {old} {front} {now} b w = let e : i + 0 ≡ i = omega arith in rw (e, append-nil front) w
  stored_written (r ∷ rs) i {old} {front} {now} b w =
      let fits : i * s.width + s.width ≤ length old = rows_fit s old i (omega arith) in
      let same : rows s now ≡ rows s old = rows_long s now old (omega (arith, length-written w, fits)) in
      let e : suc i + length rs ≡ i + suc (length rs) = omega arith in
      let w' : Written old (front ++ s.numbers r) (suc i * s.width) (put s now i r) =
      rw (← (put_there s now i r (rw same (omega arith)))) (written_to w (s.numbers r) (i * s.width + s.width - i * s.width) (suc i * s.width)
      (s.long r ∙ sym (add-sub_cancel_left (i * s.width) s.width)) (omega (arith, suc-mul i s.width))) in
      rw (← e, ← (append_assoc front (s.numbers r) (numbers rs))) (stored_written rs (suc i) (omega arith) w')

  module _ (rs : List A) (l : List ℕ) (fit : length rs ≤ rows s l) where
    -- as numbers written over the table's front
    pub stored_over : stored_from s 0 rs l ≡ over (numbers rs) l
    stored_over =
        let z : 0 * s.width ≡ 0 = omega arith in
        let w = stored_written rs 0 {old = l} {front = []} {now = l} (omega arith) (rw z (written_none l)) in
        w.is ∙ ap (λ (n : ℕ). numbers rs ++ drop n l) (sym w.long)

    pub length-stored : length (stored_from s 0 rs l) ≡ length l
    length-stored =
        let z : 0 * s.width ≡ 0 = omega arith in
        let w = stored_written rs 0 {old = l} {front = []} {now = l} (omega arith) (rw z (written_none l)) in
        omega (arith, length-written w, rows_hold l (length rs) fit)

    pub first_stored : first_rows_of s (stored_from s 0 rs l) (length rs) ≡ rs
    first_stored =
        let has : length rs ≤ rows s (stored_from s 0 rs l) = rw (rows_long s (stored_from s 0 rs l) l length-stored) fit in
        same_numbers _ _ (length-first (stored_from s 0 rs l) (length rs))
        (numbers_first (stored_from s 0 rs l) (length rs) has ∙ ap (take (length rs * s.width)) stored_over
        ∙ take_at (numbers rs) (drop (length (numbers rs)) l) (length rs * s.width) (length-numbers rs))
