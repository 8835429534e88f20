-- A number's decimal text, as a line has it: an optional minus, digits, no leading zero, 32 signed bits. Assumes nothing.
use Rattle.std.specs.Prelude.{◌+◌, ◌-◌, ◌*◌, ◌&&◌, ◌∷◌, Option, Some, None}
use Rattle.numbers.specs.Library.{ℕ, Bool, true, false, not, List, [], leb, eqb, ℤ, pos, neg_ℤ}
use Rattle.std.specs.Int.Signed.{le_z}
use Rattle.numbers.specs.Prelude.{pick}

-- '0' to '9'
unfoldable pub is_digit : ℕ → Bool
is_digit c = leb 48 c && leb c 57

unfoldable pub all_digits : List ℕ → Bool
all_digits [] = true
all_digits (c ∷ cs) = is_digit c && all_digits cs

-- a '0' with more after it
unfoldable pub zero_first : List ℕ → Bool
zero_first [] = false
zero_first (c ∷ []) = false
zero_first (c ∷ d ∷ ds) = eqb c 48

-- digits and nothing else, at least one, and no leading zero
unfoldable pub is_numeral : List ℕ → Bool
is_numeral [] = false
is_numeral (c ∷ cs) = not (zero_first (c ∷ cs)) && all_digits (c ∷ cs)

-- what digits are worth after digits that are worth a
unfoldable pub value : ℕ → List ℕ → ℕ
value a [] = a
value a (c ∷ cs) = value (a * 10 + (c - 48)) cs

-- 32 signed bits: -2147483648 to 2147483647
unfoldable pub fits32 : ℤ → Bool
fits32 z = le_z (neg_ℤ (pos 2147483648)) z && le_z z (pos 2147483647)

-- the number of a numeral under a sign
unfoldable pub signed : (ℤ → ℤ) → List ℕ → Option ℤ
signed sign w =
    pick (is_numeral w && fits32 (sign (pos (value 0 w)))) (Some (sign (pos (value 0 w)))) None

-- '-'
unfoldable pub minus_first : List ℕ → Bool
minus_first [] = false
minus_first (c ∷ cs) = eqb c 45

unfoldable pub after_first : List ℕ → List ℕ
after_first [] = []
after_first (c ∷ cs) = cs

-- the number that a word writes
unfoldable pub number_of : List ℕ → Option ℤ
number_of w = pick (minus_first w) (signed neg_ℤ (after_first w)) (signed (λ z. z) w)

-- what a numeral is worth, where that number or its negative fits
unfoldable pub digits_of : List ℕ → Option ℕ
digits_of w = pick (is_numeral w && leb (value 0 w) 2147483648) (Some (value 0 w)) None
