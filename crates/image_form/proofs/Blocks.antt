-- A block of form 1 by its pieces: what stands in front, the data, the zeros after it, and the check. Assumes nothing.
use Rattle.std.specs.Prelude.{◌+◌, ◌-◌, ◌*◌, ◌%◌, ◌≤◌, ◌≡◌, ◌++◌, ◌∷◌}
use Rattle.numbers.specs.Library.{ℕ, zero, suc, refl, sym, ap, ◌∙◌, List, [], append_assoc, length, get_or, take, drop, arith}
use Rattle.numbers.specs.Library.{length-append, length-drop, length-take-le, drop-cons}
use lib.ListN.{replicate, length-replicate, take-append-drop, drop_of_length-le}
use lib.Seq.{take_at, drop-drop, take-add}
use Rattle.image_form.specs.Bytes.{bytes_of, words_of, total}
use Rattle.image_form.specs.Blocks.{front, block}
use Rattle.image_form.specs.Form1.{form1}
use Rattle.image_form.proofs.Words.{length_bytes, bytes_append, words_bytes, total_append, total_zeros, zeros_total}
use Rattle.image_form.proofs.Tables.{same_parts}
use Rattle.image_form.proofs.Written.{Written, length-written, written_first, written_to, written_all}

abbrev head1 : (number kind rows : ℕ) → List ℕ
head1 number kind rows = number ∷ (1 + 256 * kind) ∷ rows ∷ []

module _ (number kind rows : ℕ) (numbers : List ℕ) where
  abbrev pub check_of : ℕ
  check_of = (total (head1 number kind rows) + total numbers) % 65535

  -- zeros add nothing to the sum
  check_is : total (front form1 number kind rows numbers) % 65535 ≡ check_of
  unfolding front form1 total
  check_is =
      let e : total (front form1 number kind rows numbers) ≡ total (head1 number kind rows) + total numbers =
      omega (arith, total_append numbers (replicate (252 - length numbers) 0), total_zeros (252 - length numbers)) in
      ap (λ (n : ℕ). n % 65535) e

  pub block_is : block form1 number kind rows numbers ≡ head1 number kind rows ++ (numbers ++ (replicate (252 - length numbers) 0 ++ (check_of ∷ [])))
  unfolding block front form1
  block_is = rw (← check_is) (ap (λ (l : List ℕ). head1 number kind rows ++ l) (append_assoc numbers (replicate (252 - length numbers) 0) ((total (front form1 number kind rows numbers) % 65535) ∷ [])))

  pub length-block : length numbers ≤ 252 → length (block form1 number kind rows numbers) ≡ 256
  length-block b =
      ap length block_is
      ∙ omega (arith, length-append numbers (replicate (252 - length numbers) 0 ++ (check_of ∷ [])), length-append (replicate (252 - length numbers) 0) (check_of ∷ []), length-replicate {A = ℕ} (252 - length numbers) 0)

  -- the data is found again in its place
  pub data_back : (count : ℕ) → length numbers ≡ count → take count (drop 3 (block form1 number kind rows numbers)) ≡ numbers
  data_back count e = ap (λ (l : List ℕ). take count (drop 3 l)) block_is ∙ take_at numbers (replicate (252 - length numbers) 0 ++ (check_of ∷ [])) count e

-- ---- a block's bytes as they are written

bytes_zeros : (n : ℕ) → bytes_of (replicate n 0) ≡ replicate (2 * n) 0
unfolding bytes_of
bytes_zeros zero = refl
bytes_zeros (suc n) = let e : 2 * suc n ≡ suc (suc (2 * n)) = omega arith in rw (e, bytes_zeros n)

module _ (number kind rows : ℕ) (numbers : List ℕ) (few : length numbers ≤ 252) where
  bytes_are : bytes_of (block form1 number kind rows numbers)
      ≡ ((bytes_of (head1 number kind rows) ++ bytes_of numbers) ++ replicate (510 - (6 + 2 * length numbers)) 0) ++ bytes_of (check_of number kind rows numbers ∷ [])
  bytes_are =
      let e : 510 - (6 + 2 * length numbers) ≡ 2 * (252 - length numbers) = omega arith in
      rw (block_is number kind rows numbers, e, ← bytes_zeros (252 - length numbers), append_assoc, append_assoc)
      (bytes_append (head1 number kind rows) (numbers ++ (replicate (252 - length numbers) 0 ++ (check_of number kind rows numbers ∷ [])))
      ∙ ap (λ (l : List ℕ). bytes_of (head1 number kind rows) ++ l) (bytes_append numbers (replicate (252 - length numbers) 0 ++ (check_of number kind rows numbers ∷ []))
      ∙ ap (λ (l : List ℕ). bytes_of numbers ++ l) (bytes_append (replicate (252 - length numbers) 0) (check_of number kind rows numbers ∷ []))))

  -- the bytes before the check, and their sum
  front_bytes : bytes_of ((head1 number kind rows ++ numbers) ++ replicate (252 - length numbers) 0)
      ≡ (bytes_of (head1 number kind rows) ++ bytes_of numbers) ++ replicate (510 - (6 + 2 * length numbers)) 0
  front_bytes =
      let e : 510 - (6 + 2 * length numbers) ≡ 2 * (252 - length numbers) = omega arith in
      bytes_append (head1 number kind rows ++ numbers) (replicate (252 - length numbers) 0)
      ∙ rw (e, ← bytes_zeros (252 - length numbers)) (ap (λ (l : List ℕ). l ++ bytes_of (replicate (252 - length numbers) 0)) (bytes_append (head1 number kind rows) numbers))

  front_total : total (words_of (bytes_of ((head1 number kind rows ++ numbers) ++ replicate (252 - length numbers) 0))) ≡ total (head1 number kind rows) + total numbers
  front_total =
      ap total (words_bytes ((head1 number kind rows ++ numbers) ++ replicate (252 - length numbers) 0))
      ∙ omega (arith, total_append (head1 number kind rows ++ numbers) (replicate (252 - length numbers) 0), total_append (head1 number kind rows) numbers, total_zeros (252 - length numbers))

  -- four parts, one after the other: heading, data, zeros, check
  module _ (out : List ℕ) (long : length out ≡ 512) (heads data-bytes zeros check : List ℕ) where
    abbrev end : ℕ
    end = 6 + 2 * length numbers

    abbrev first : List ℕ
    first = heads ++ drop 6 out

    abbrev second : List ℕ
    second = take 6 first ++ (data-bytes ++ drop (end - 6) (drop 6 first))

    abbrev third : List ℕ
    third = take end second ++ (zeros ++ drop (510 - end) (drop end second))

    pub block_written : heads ≡ bytes_of (head1 number kind rows) → data-bytes ≡ bytes_of numbers → zeros ≡ replicate (length (take (510 - end) (drop end second))) 0
        → check ≡ bytes_of ((total (words_of (take 510 third)) % 65535) ∷ []) → take 510 third ++ (check ++ drop 2 (drop 510 third)) ≡ bytes_of (block form1 number kind rows numbers)
    block_written h d z k =
        let w₁ : Written out heads 6 first = written_first out heads 6 (ap length h ∙ length_bytes (head1 number kind rows)) in
        let w₂ : Written out (heads ++ data-bytes) end second = written_to w₁ data-bytes (end - 6) end (ap length d ∙ length_bytes numbers ∙ omega arith) (omega arith) in
        let room : length (take (510 - end) (drop end second)) ≡ 510 - end = length-take-le (510 - end) (drop end second) (omega (arith, length-drop end second, length-written w₂)) in
        let z' : zeros ≡ replicate (510 - end) 0 = z ∙ ap (λ (n : ℕ). replicate n 0) room in
        let w₃ : Written out ((heads ++ data-bytes) ++ zeros) 510 third =
        written_to w₂ zeros (510 - end) 510 (ap length z' ∙ length-replicate {A = ℕ} (510 - end) 0) (omega arith) in
        let same : take 510 third ≡ bytes_of ((head1 number kind rows ++ numbers) ++ replicate (252 - length numbers) 0) =
        ap (take 510) w₃.is ∙ take_at ((heads ++ data-bytes) ++ zeros) (drop 510 out) 510 w₃.long ∙ rw (h, d, z') (sym front_bytes) in
        let k' : check ≡ bytes_of (check_of number kind rows numbers ∷ []) = k ∙ ap (λ (n : ℕ). bytes_of ((n % 65535) ∷ [])) (ap (λ (l : List ℕ). total (words_of l)) same ∙ front_total) in
        let w₄ = written_to w₃ check 2 512 (ap length k' ∙ length_bytes (check_of number kind rows numbers ∷ [])) refl in
        written_all w₄ (omega arith) ∙ rw (h, d, z', k') (sym bytes_are)

-- ---- a block's words as they are met

module _ (words : List ℕ) (count : ℕ) (long : length words ≡ 256) (few : count ≤ 252) where
  -- the data, what follows it up to the check, and the check
  abbrev pub held : List ℕ
  held = take count (drop 3 words)

  abbrev pub unused : List ℕ
  unused = take (252 - count) (drop (3 + count) words)

  length-held : length held ≡ count
  length-held = length-take-le count (drop 3 words) (omega (arith, length-drop 3 words))

  length-unused : length unused ≡ 252 - count
  length-unused = length-take-le (252 - count) (drop (3 + count) words) (omega (arith, length-drop (3 + count) words))

  pieces : words ≡ take 3 words ++ (held ++ (unused ++ (get_or words 255 0 ∷ [])))
  pieces =
      let end : drop 255 words ≡ get_or words 255 0 ∷ [] =
      drop-cons words 255 0 (omega arith) ∙ ap (λ (l : List ℕ). get_or words 255 0 ∷ l) (drop_of_length-le words {i = 256} (omega arith)) in
      let sum : 3 + count + (252 - count) ≡ 255 = omega arith in
      sym (take-append-drop 3 words)
      ∙ ap (λ (l : List ℕ). take 3 words ++ l) (sym (take-append-drop count (drop 3 words))
      ∙ ap (λ (l : List ℕ). held ++ l) (drop-drop count 3 words ∙ sym (take-append-drop (252 - count) (drop (3 + count) words))
      ∙ ap (λ (l : List ℕ). unused ++ l) (drop-drop (252 - count) (3 + count) words ∙ ap (λ (n : ℕ). drop n words) sum ∙ end)))

  summed : total (take (3 + count) words) ≡ total (take 3 words) + total held
  summed = ap total (take-add 3 count words) ∙ total_append (take 3 words) held

  pub whole_sum : total words ≡ total (take (3 + count) words) + total unused + get_or words 255 0
  unfolding total
  whole_sum = omega (arith, summed, simp total_append at (ap total pieces))

  module _ (number kind rows : ℕ) where
    abbrev made : List ℕ
    made = head1 number kind rows ++ (held ++ (replicate (252 - length held) 0 ++ (check_of number kind rows held ∷ [])))

    -- the three tests say that this is the block of the data that stands in it
    pub block_right : take 3 words ≡ head1 number kind rows → total unused ≡ 0 → total (take (3 + count) words) % 65535 ≡ get_or words 255 0
        → words ≡ block form1 number kind rows held
    block_right head zeros check =
        let u : unused ≡ replicate (252 - length held) 0 = zeros_total unused zeros ∙ ap (λ (n : ℕ). replicate n 0) (length-unused ∙ ap (λ (n : ℕ). 252 - n) (sym length-held)) in
        let k : get_or words 255 0 ≡ check_of number kind rows held =
        sym check ∙ ap (λ (n : ℕ). n % 65535) (summed ∙ ap (λ (l : List ℕ). total l + total held) head) in
        let whole : take 3 words ++ (held ++ (unused ++ (get_or words 255 0 ∷ []))) ≡ made =
        ap (λ (l : List ℕ). l ++ (held ++ (unused ++ (get_or words 255 0 ∷ [])))) head
        ∙ ap (λ (l : List ℕ). head1 number kind rows ++ (held ++ l)) (ap (λ (l : List ℕ). l ++ (get_or words 255 0 ∷ [])) u
        ∙ ap (λ (n : ℕ). replicate (252 - length held) 0 ++ (n ∷ [])) k) in
        pieces ∙ whole ∙ sym (block_is number kind rows held)

    module _ (is : words ≡ block form1 number kind rows held) where
      parts : (take 3 words ≡ head1 number kind rows) × (held ++ (unused ++ (get_or words 255 0 ∷ [])) ≡ held ++ (replicate (252 - length held) 0 ++ (check_of number kind rows held ∷ [])))
      parts = same_parts (take 3 words) _ (head1 number kind rows) _ (length-take-le 3 words (omega arith)) (sym pieces ∙ is ∙ block_is number kind rows held)

      ends : (unused ≡ replicate (252 - length held) 0) × (get_or words 255 0 ∷ [] ≡ check_of number kind rows held ∷ [])
      ends =
          same_parts unused (get_or words 255 0 ∷ []) (replicate (252 - length held) 0) (check_of number kind rows held ∷ [])
          (length-unused ∙ sym (length-replicate (252 - length held) 0 ∙ ap (λ (n : ℕ). 252 - n) length-held))
          (same_parts held _ held _ refl parts.1).1

      pub right_front : take 3 words ≡ head1 number kind rows
      right_front = parts.0

      pub right_unused : total unused ≡ 0
      right_unused = ap total ends.0 ∙ total_zeros (252 - length held)

      pub right_check : total (take (3 + count) words) % 65535 ≡ get_or words 255 0
      right_check =
          ap (λ (n : ℕ). n % 65535) (summed ∙ ap (λ (l : List ℕ). total l + total held) right_front) ∙ sym (ap (λ (l : List ℕ). get_or l 0 0) ends.1)
