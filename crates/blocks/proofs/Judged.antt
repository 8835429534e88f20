-- What the tests of one block say: its heading, the words after its data, and its check. Assumes nothing.
use Rattle.std.specs.Prelude.{◌+◌, ◌-◌, ◌*◌, ◌%◌, ◌≤◌, ◌≡◌, ◌∷◌}
use Rattle.numbers.specs.Library.{ℕ, refl, sym, ap, ◌∙◌, Bool, false, List, [], length, get_or, take, drop, take_all, arith, eqb, eqb-true, eq-eqb}
use Rattle.numbers.specs.Prelude.{Decides, refuted}
use Rattle.image_form.specs.Bytes.{words_of, total}
use Rattle.image_form.specs.Blocks.{heading}
use Rattle.image_form.specs.Form1.{form1}
use Rattle.image_form.proofs.Words.{length-words, words_take, words_drop}
use Rattle.image_form.proofs.Blocks.{whole_sum, block_right, right_front, right_unused, right_check}
use Rattle.std.proofs.lemmas.Bool.Decides.{Decides-eqb}
use Rattle.std.proofs.lemmas.Slice.Eq.{slice_eq-Decides}
use lib.Pointwise.{pointwise}
use Rattle.blocks.specs.Right.{BlockRight, unused_sum, CheckRight}

-- a test of equality
pub equal : {A : Type 0} (a b : ℕ) → (a ≡ b → A) → (A → a ≡ b) → Decides (eqb a b) A
equal a b to from = record { sound = λ e. to (eqb-true a b e); complete = λ x. eq-eqb a b (from x) }

module _ (bytes : List ℕ) (long : length bytes ≡ 512) where
  abbrev words : List ℕ
  words = words_of bytes

  many : length words ≡ 256
  many = length-words bytes ∙ omega arith

  three : (ws : List ℕ) → length ws ≡ 256 → take 3 ws ≡ get_or ws 0 0 ∷ get_or ws 1 0 ∷ get_or ws 2 0 ∷ []
  three [] e = absurd (omega arith)
  three (a ∷ []) e = absurd (omega arith)
  three (a ∷ b ∷ []) e = absurd (omega arith)
  three (a ∷ b ∷ c ∷ ws) e = refl

  module _ (count : ℕ) (few : count ≤ 252) where
    -- the parts of the bytes that are looked at are parts of the words
    after_data : total (words_of (take (510 - (6 + 2 * count)) (drop (6 + 2 * count) bytes))) ≡ unused_sum count words
    after_data =
        let a : 6 + 2 * count ≡ 2 * (3 + count) = omega arith in
        let b : 510 - 2 * (3 + count) ≡ 2 * (252 - count) = omega arith in
        rw (a, b) (ap total (words_take (252 - count) (drop (2 * (3 + count)) bytes) ∙ ap (take (252 - count)) (words_drop (3 + count) bytes)))

    to_data : total (words_of (take (6 + 2 * count - 0) bytes)) ≡ total (take (3 + count) words)
    to_data = let a : 6 + 2 * count - 0 ≡ 2 * (3 + count) = omega arith in rw a (ap total (words_take (3 + count) bytes))

    -- where nothing stands after the data, all words sum to those up to its end and the check
    pub to_end : unused_sum count words ≡ 0 → total (words_of (take 512 bytes)) ≡ total (take (3 + count) words) + get_or words 255 0
    to_end z = ap (λ (l : List ℕ). total (words_of l)) (take_all 512 bytes (omega arith)) ∙ whole_sum words count many few ∙ omega arith

    pub unused_decides : {test : Bool} → Decides test (total (words_of (take (510 - (6 + 2 * count)) (drop (6 + 2 * count) bytes))) ≡ 0) → Decides test (unused_sum count words ≡ 0)
    unused_decides d = rw after_data at d

    module _ (sum check : ℕ) (k : check ≡ get_or words 255 0) where
      sum_decides : (front : ℕ) → front ≡ total (take (3 + count) words) → Decides (eqb (front % 65535) check) (CheckRight count words)
      sum_decides front s = rw (← s, ← k) (equal (front % 65535) check (λ e. e) (λ e. e))

      pub front_decides : sum ≡ total (words_of (take (6 + 2 * count - 0) bytes)) → Decides (eqb (sum % 65535) check) (CheckRight count words)
      front_decides s = sum_decides sum (s ∙ to_data)

      pub whole_decides : sum ≡ total (words_of (take 512 bytes)) → unused_sum count words ≡ 0 → Decides (eqb ((sum - check) % 65535) check) (CheckRight count words)
      whole_decides s z = sum_decides (sum - check) (omega (arith, to_end z))

  module _ (number kind rows : ℕ) where
    abbrev Heading : Type 0
    Heading = take 3 words ≡ heading form1 number kind rows

    -- read one by one and compared with a heading's words
    pub heading_decides : {a b c : ℕ} → a ≡ get_or words 0 0 → b ≡ get_or words 1 0 → c ≡ get_or words 2 0
        → {due : List ℕ} → due ≡ heading form1 number kind rows → {test : Bool} → test ≡ pointwise eqb (a ∷ b ∷ c ∷ []) due → Decides test Heading
    heading_decides {a} {b} {c} is₀ is₁ is₂ {due} e {test} compared =
        let met : (a ∷ b ∷ c ∷ []) ≡ take 3 words = rw (is₀, is₁, is₂) (sym (three words many)) in
        let d = slice_eq-Decides Decides-eqb (a ∷ b ∷ c ∷ []) due test compared in
        record { sound = λ t. sym met ∙ d.0 t ∙ e; complete = λ h. d.1 (met ∙ h ∙ sym e) }

    module _ (count : ℕ) (few : count ≤ 252) where
      abbrev Right : Type 0
      Right = BlockRight number kind rows count words

      pub wrong_heading : (Heading → ⊥) → Decides false Right
      unfolding BlockRight form1
      wrong_heading n = refuted (λ r. n (right_front words count many few number kind rows r))

      pub wrong_unused : (unused_sum count words ≡ 0 → ⊥) → Decides false Right
      unfolding BlockRight form1
      wrong_unused n = refuted (λ r. n (right_unused words count many few number kind rows r))

      pub last_of_block : Heading → unused_sum count words ≡ 0 → {test : Bool} → Decides test (CheckRight count words) → Decides test Right
      unfolding BlockRight form1
      last_of_block h z d = record {
        sound = λ t. block_right words count many few number kind rows h z (d.sound t);
        complete = λ r. d.complete (right_check words count many few number kind rows r);
      }
