-- The laws of a number's digits, as they are found: the least significant first, from the end of a buffer. Assumes nothing.
use Rattle.std.specs.Prelude.{◌+◌, ◌*◌, ◌^◌, ◌/◌, ◌%◌, ◌≤◌, ◌<◌, ◌≡◌, ◌∷◌, ◌++◌}
use Rattle.numbers.specs.Library.{ℕ, zero, suc, arith, add-one, refl, sym, ap, ◌∙◌, Bool, true, false, List, []}
use Rattle.numbers.specs.Library.{append_assoc, append-nil, length, get_or, take, drop, set, length-append, take-suc, drop-cons, ltb, lt-ltb, le-ltb}
use Rattle.numbers.specs.Library.{ltb-true, ltb-false}
use native.Mathlib.Nat.{pow-suc}
use lib.Seq.{get_or-set_same, drop-set-lt, lt-length-set}
use Rattle.numbers.specs.Prelude.{pick}
use Rattle.texts.specs.Text.{spell, decimal, spaced}

-- any bound above n gives the same digits
enough_by : (k j n : ℕ) (b : Bool) → ltb n 10 ≡ b → (10 ≤ n → spell k (n / 10) ≡ spell j (n / 10))
    → pick b ((48 + n) ∷ []) (spell k (n / 10) ++ ((48 + n % 10) ∷ [])) ≡ pick b ((48 + n) ∷ []) (spell j (n / 10) ++ ((48 + n % 10) ∷ []))
enough_by k j n true h r = refl
enough_by k j n false h r = ap (λ (s : List ℕ). s ++ ((48 + n % 10) ∷ [])) (r (ltb-false n 10 h))

enough : (k j n : ℕ) → n < k → n < j → spell k n ≡ spell j n
unfolding spell
enough zero j n p q = absurd (omega arith)
enough (suc k) zero n p q = absurd (omega arith)
enough (suc k) (suc j) n p q = enough_by k j n (ltb n 10) refl (λ l. enough k j (n / 10) (omega arith) (omega arith))

pub decimal_small : (n : ℕ) → n < 10 → decimal n ≡ (48 + n) ∷ []
unfolding decimal spell
decimal_small n h = simp (lt-ltb n 10 h)

pub decimal_more : (n : ℕ) → 10 ≤ n → decimal n ≡ decimal (n / 10) ++ ((48 + n % 10) ∷ [])
unfolding decimal spell
decimal_more n h = simp (le-ltb n 10 h) (ap (λ (s : List ℕ). s ++ ((48 + n % 10) ∷ [])) (enough n (suc (n / 10)) (n / 10) (omega arith) (omega arith)))

pub more_length : (n : ℕ) → 10 ≤ n → length (decimal n) ≡ length (decimal (n / 10)) + 1
more_length n h = ap length (decimal_more n h) ∙ length-append (decimal (n / 10)) ((48 + n % 10) ∷ [])

-- ---- how many

few_by : (k n : ℕ) (b : Bool) → ltb n 10 ≡ b → length (decimal (n / 10)) ≤ suc k → length (decimal n) ≤ suc (suc k)
few_by k n true e r = omega (arith, ap length (decimal_small n (ltb-true n 10 e)))
few_by k n false e r = omega (arith, more_length n (ltb-false n 10 e))

few : (k n : ℕ) → n < 10 ^ suc k → length (decimal n) ≤ suc k
few zero n h = omega (arith, ap length (decimal_small n h))
few (suc k) n h =
    let p : 10 ^ suc (suc k) ≡ 10 ^ suc k * 10 = pow-suc 10 (suc k) in
    few_by k n (ltb n 10) refl (few k (n / 10) (omega arith))

pub five : (n : ℕ) → n < 2 ^ 16 → length (decimal n) ≤ 5
five n h = few 4 n (omega arith)

pub ten : (n : ℕ) → n < 2 ^ 32 → length (decimal n) ≤ 10
ten n h = few 9 n (omega arith)

pub some : (n : ℕ) → 1 ≤ length (decimal n)
some n = go (ltb n 10) refl where
  go : (b : Bool) → ltb n 10 ≡ b → 1 ≤ length (decimal n)
  go true e = omega (arith, ap length (decimal_small n (ltb-true n 10 e)))
  go false e = omega (arith, more_length n (ltb-false n 10 e))

-- ---- the loop's claim: the digits of the rest, and those found, which stand after index i

pub record Found (n rest i : ℕ) (digits : List ℕ) : Type 0 where
  pub room : length digits ≡ 10
  pub last : i < 10
  pub left : length (decimal rest) ≤ i + 1
  pub all : decimal n ≡ decimal rest ++ drop (i + 1) digits

stored : (digits : List ℕ) (i d : ℕ) → i < length digits → drop i (set digits i d) ≡ d ∷ drop (i + 1) digits
stored digits i d h =
    drop-cons (set digits i d) i 0 (lt-length-set digits i d h)
    ∙ ap (λ (x : ℕ). x ∷ drop (suc i) (set digits i d)) (get_or-set_same digits i d 0 h)
    ∙ ap (λ (l : List ℕ). d ∷ l) (drop-set-lt (suc i) digits i d (omega arith) ∙ ap (λ (k : ℕ). drop k digits) (sym (add-one i)))

module _ (n rest i : ℕ) (digits : List ℕ) (f : Found n rest i digits) where
  inside : i < length digits
  inside = omega (arith, f.last, f.room)

  -- a digit more
  pub found_more : 9 < rest → decimal n ≡ decimal (rest / 10) ++ drop i (set digits i (48 + rest % 10))
  found_more h =
      f.all
      ∙ ap (λ (l : List ℕ). l ++ drop (i + 1) digits) (decimal_more rest (omega arith))
      ∙ append_assoc (decimal (rest / 10)) ((48 + rest % 10) ∷ []) (drop (i + 1) digits)
      ∙ ap (λ (l : List ℕ). decimal (rest / 10) ++ l) (sym (stored digits i (48 + rest % 10) inside))

  -- the first one
  pub found_all : rest ≤ 9 → drop i (set digits i (48 + rest)) ≡ decimal n
  found_all h =
      stored digits i (48 + rest) inside
      ∙ sym (f.all ∙ ap (λ (l : List ℕ). l ++ drop (i + 1) digits) (decimal_small rest (omega arith)))

-- ---- a number more, with its space

spaced_end : (ns : List ℕ) (n : ℕ) → spaced (ns ++ (n ∷ [])) ≡ (spaced ns ++ (32 ∷ [])) ++ decimal n
unfolding spaced
spaced_end [] n = ap (λ (l : List ℕ). 32 ∷ l) (append-nil (decimal n))
spaced_end (m ∷ ns) n =
    ap (λ (l : List ℕ). 32 ∷ (decimal m ++ l)) (spaced_end ns n)
    ∙ ap (λ (l : List ℕ). 32 ∷ l) (sym (append_assoc (decimal m) (spaced ns ++ (32 ∷ [])) (decimal n)) ∙ ap (λ (l : List ℕ). l ++ decimal n) (sym (append_assoc (decimal m) (spaced ns) (32 ∷ []))))

pub spaced_more : (ns : List ℕ) (i : ℕ) → i < length ns → spaced (take (i + 1) ns) ≡ (spaced (take i ns) ++ (32 ∷ [])) ++ decimal (get_or ns i 0)
spaced_more ns i h = rw (add-one i, take-suc ns i 0 h) (spaced_end (take i ns) (get_or ns i 0))
