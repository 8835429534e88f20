-- The laws of numerals that the proofs of reading them cite. Assumes nothing.
use Rattle.std.specs.Prelude.{◌+◌, ◌-◌, ◌*◌, ◌≤◌, ◌<◌, ◌≡◌, ◌&&◌, ◌∷◌, Some, None}
use Rattle.numbers.specs.Library.{ℕ, zero, suc, arith, add-one, refl, sym, Bool, true, false, and-false, false≢true}
use Rattle.numbers.specs.Library.{List, [], length, get_or, take, drop, drop-cons, take_all, leb, eqb, ℤ, pos, neg_ℤ, le-leb}
use Rattle.numbers.specs.Library.{lt-leb, leb-true}
use borrow.Author.Tests.{leb-false}
use Rattle.numbers.specs.Prelude.{pick}
use Rattle.numerals.specs.Numeral.{is_digit, all_digits, zero_first, is_numeral, value, fits32, signed, minus_first, after_first, number_of, digits_of}

-- ---- a leading zero

pub zero_long : (w : List ℕ) → 1 < length w → zero_first w ≡ eqb (get_or w 0 0) 48
unfolding zero_first
zero_long [] h = absurd (omega arith)
zero_long (c ∷ []) h = absurd (omega arith)
zero_long (c ∷ d ∷ ds) h = refl

pub zero_short : (w : List ℕ) → length w ≤ 1 → zero_first w ≡ false
unfolding zero_first
zero_short [] h = refl
zero_short (c ∷ []) h = refl
zero_short (c ∷ d ∷ ds) h = absurd (omega arith)

-- ---- one digit more

pub digit : (c : ℕ) → 48 ≤ c → c ≤ 57 → is_digit c ≡ true
unfolding is_digit
digit c l h = simp (le-leb _ _ l, le-leb _ _ h)

pub low : (c : ℕ) → c < 48 → is_digit c ≡ false
unfolding is_digit
low c h = simp (lt-leb _ _ h)

pub high : (c : ℕ) → 57 < c → is_digit c ≡ false
unfolding is_digit
high c h = simp (lt-leb _ _ h, and-false)

pub digits_step : (w : List ℕ) (i : ℕ) → i < length w → is_digit (get_or w i 0) ≡ true → all_digits (drop i w) ≡ all_digits (drop (i + 1) w)
unfolding all_digits
digits_step w i h d = simp (drop-cons w i 0 h, d, add-one)

pub digits_stop : (w : List ℕ) (i : ℕ) → i < length w → is_digit (get_or w i 0) ≡ false → all_digits (drop i w) ≡ false
unfolding all_digits
digits_stop w i h d = simp (drop-cons w i 0 h, d)

pub value_step : (w : List ℕ) (i a : ℕ) → i < length w → value a (drop i w) ≡ value (a * 10 + (get_or w i 0 - 48)) (drop (i + 1) w)
unfolding value
value_step w i a h = simp (drop-cons w i 0 h, add-one)

pub value_grows : (w : List ℕ) (a : ℕ) → a ≤ value a w
unfolding value
value_grows [] a = omega arith
value_grows (c ∷ cs) a = omega (arith, value_grows cs (a * 10 + (c - 48)))

pub end_digits : (w : List ℕ) (i : ℕ) → length w ≤ i → all_digits (drop i w) ≡ true
unfolding all_digits
end_digits [] zero h = refl
end_digits [] (suc i) h = refl
end_digits (c ∷ cs) zero h = absurd (omega arith)
end_digits (c ∷ cs) (suc i) h = end_digits cs i (omega arith)

pub end_value : (w : List ℕ) (i a : ℕ) → length w ≤ i → value a (drop i w) ≡ a
unfolding value
end_value [] zero a h = refl
end_value [] (suc i) a h = refl
end_value (c ∷ cs) zero a h = absurd (omega arith)
end_value (c ∷ cs) (suc i) a h = end_value cs i a (omega arith)

-- ---- the whole numeral

pub none_empty : (w : List ℕ) → length w ≡ 0 → digits_of w ≡ None
unfolding digits_of is_numeral
none_empty [] h = refl
none_empty (c ∷ cs) h = absurd (omega arith)

pub none_zero : (w : List ℕ) → zero_first w ≡ true → digits_of w ≡ None
unfolding digits_of is_numeral
none_zero [] h = refl
none_zero (c ∷ cs) h = simp h

pub none_other : (w : List ℕ) → all_digits w ≡ false → digits_of w ≡ None
unfolding digits_of is_numeral
none_other [] h = refl
none_other (c ∷ cs) h = simp (h, and-false)

pub none_large : (w : List ℕ) → 2147483648 < value 0 w → digits_of w ≡ None
unfolding digits_of
none_large w h = simp (lt-leb (value 0 w) 2147483648 h, and-false)

pub some_worth : (w : List ℕ) → 0 < length w → zero_first w ≡ false → all_digits w ≡ true → value 0 w ≤ 2147483648 → digits_of w ≡ Some (value 0 w)
unfolding digits_of is_numeral
some_worth [] n z d h = absurd (omega arith)
some_worth (c ∷ cs) n z d h = simp (z, d, le-leb _ _ h)

-- ---- the sign

pub after_drop : (w : List ℕ) → take (length w - 1) (drop 1 w) ≡ after_first w
unfolding after_first
after_drop [] = refl
after_drop (c ∷ cs) = take_all (suc (length cs) - 1) cs (omega arith)

pub not_empty : (w : List ℕ) → eqb (length w) 0 ≡ false → 0 < length w
not_empty [] h = absurd (false≢true (sym h))
not_empty (c ∷ cs) h = omega arith

pub minus_some : (w : List ℕ) → 0 < length w → minus_first w ≡ eqb (get_or w 0 0) 45
unfolding minus_first
minus_some [] h = absurd (omega arith)
minus_some (c ∷ cs) h = refl

pub minus_none : (w : List ℕ) → length w ≤ 0 → minus_first w ≡ false
unfolding minus_first
minus_none [] h = refl
minus_none (c ∷ cs) h = absurd (omega arith)

pub minus_long : (w : List ℕ) → minus_first w ≡ true → 0 < length w
unfolding minus_first
minus_long [] h = absurd (false≢true h)
minus_long (c ∷ cs) h = omega arith

-- ---- 32 signed bits, by sign

pub pos_within : (v : ℕ) → v < 2147483648 → fits32 (pos v) ≡ true
unfolding fits32
pos_within v h = le-leb v 2147483647 (omega arith)

pub pos_beyond : (v : ℕ) → 2147483648 ≤ v → fits32 (pos v) ≡ false
unfolding fits32
pos_beyond v h = lt-leb v 2147483647 (omega arith)

pub neg_within : (v : ℕ) → v ≤ 2147483648 → fits32 (neg_ℤ (pos v)) ≡ true
unfolding fits32
neg_within zero h = refl
neg_within (suc n) h = simp (le-leb n 2147483647 (omega arith))

pub neg_beyond : (v : ℕ) → 2147483648 < v → fits32 (neg_ℤ (pos v)) ≡ false
unfolding fits32
neg_beyond zero h = absurd (omega arith)
neg_beyond (suc n) h = simp (lt-leb n 2147483647 (omega arith))

-- ---- from what the digits are worth to the number

pub record Read (w : List ℕ) (v : ℕ) : Type 0 where
  pub numeral : is_numeral w ≡ true
  pub worth : value 0 w ≡ v
  pub most : v ≤ 2147483648

pub was_read : (w : List ℕ) (v : ℕ) → digits_of w ≡ Some v → Read w v
unfolding digits_of
was_read w v e = go (is_numeral w) (leb (value 0 w) 2147483648) refl refl e where
  go : (n b : Bool) → is_numeral w ≡ n → leb (value 0 w) 2147483648 ≡ b → pick (n && b) (Some (value 0 w)) None ≡ Some v → Read w v
  go true true n b f =
      let s : value 0 w ≡ v = cc in
      record { numeral = n; worth = s; most = omega (arith, leb-true (value 0 w) 2147483648 b) }
  go true false n b f = absurd (let z : ◌≡◌ {A = ℕ} 0 1 = cc in omega arith)
  go false b₁ n b f = absurd (let z : ◌≡◌ {A = ℕ} 0 1 = cc in omega arith)

pub was_not : (w : List ℕ) → digits_of w ≡ None → is_numeral w ≡ true → 2147483648 < value 0 w
unfolding digits_of
was_not w e n = go (leb (value 0 w) 2147483648) refl (rw n at e) where
  go : (b : Bool) → leb (value 0 w) 2147483648 ≡ b → pick b (Some (value 0 w)) None ≡ None → 2147483648 < value 0 w
  go true b f = absurd (let z : ◌≡◌ {A = ℕ} 0 1 = cc in omega arith)
  go false b f = leb-false (value 0 w) 2147483648 b

pub by_minus : (w : List ℕ) → minus_first w ≡ true → number_of w ≡ signed neg_ℤ (after_first w)
unfolding number_of
by_minus w h = simp h

pub by_plus : (w : List ℕ) → minus_first w ≡ false → number_of w ≡ signed (λ z. z) w
unfolding number_of
by_plus w h = simp h

-- a sign under which a number fits, or none that was read does
pub signed_in : (sign : ℤ → ℤ) (w : List ℕ) (v : ℕ) → Read w v → fits32 (sign (pos v)) ≡ true → signed sign w ≡ Some (sign (pos v))
unfolding signed
signed_in sign w v r f = rw (r.numeral, r.worth, f)

pub signed_over : (sign : ℤ → ℤ) (w : List ℕ) (v : ℕ) → Read w v → fits32 (sign (pos v)) ≡ false → signed sign w ≡ None
unfolding signed
signed_over sign w v r f = rw (r.numeral, r.worth, f)

pub signed_none : (sign : ℤ → ℤ) (w : List ℕ) → digits_of w ≡ None → ((v : ℕ) → 2147483648 < v → fits32 (sign (pos v)) ≡ false) → signed sign w ≡ None
unfolding signed
signed_none sign w e beyond = go (is_numeral w) refl where
  go : (n : Bool) → is_numeral w ≡ n → pick (n && fits32 (sign (pos (value 0 w)))) (Some (sign (pos (value 0 w)))) None ≡ None
  go true n = rw (beyond (value 0 w) (was_not w e n))
  go false n = refl
