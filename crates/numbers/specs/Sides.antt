-- Raw numbers, as a caller gives them, and the limits that they are judged by. Assumes nothing.
use Rattle.numbers.specs.Library.{ℕ, min, refl, sym, Bool, true, false, false≢true, arith, leb, ℤ, pos, negsuc, lt_z, ltb-true, leb-true}
use Rattle.numbers.specs.Library.{le-leb}
use Rattle.std.specs.Prelude.{◌≤◌, ◌≡◌, ◌&&◌, T, nat_abs, Option, Some, None}
use Rattle.std.specs.Int.Signed.{non_neg}
use Rattle.numbers.specs.Decides.{Decides}
use Rattle.numbers.specs.Tests.{both}
use Rattle.numbers.specs.Pick.{pick, pick_yes, pick_no}

-- the greatest side of an atlas or of a request, and the greatest alignment
abbrev pub most_side : ℕ
most_side = 65535

-- from 1 to a greatest number
unfoldable pub one_to : ℕ → ℕ → Bool
one_to most n = leb 1 n && leb n most

-- a raw number; a negative one is outside every limit that starts at 1, as 0 is, and is read as 0
unfoldable pub natural : ℤ → ℕ
natural (pos n) = n
natural (negsuc n) = 0

-- a raw flag: 0 and 1 as they are, 2 for any other
unfoldable pub flag_of : ℤ → ℕ
flag_of (pos n) = min n 2
flag_of (negsuc n) = 2

-- a side of 1 to 65535; 0, negative or over that is bad
unfoldable pub side_of : ℤ → Option ℕ
unfolding one_to natural
side_of raw = pick (one_to most_side (natural raw)) (Some (natural raw)) None

-- ---- laws

-- what the test says
pub one_to_lem : (most n : ℕ) → Decides (one_to most n) ((1 ≤ n) × (n ≤ most))
unfolding one_to
one_to_lem most n = record {
  sound = λ e. let t = both (leb 1 n) (leb n most) e in (leb-true 1 n t.0, leb-true n most t.1);
  complete = λ w. rw (le-leb 1 n w.0, le-leb n most w.1);
}

-- a raw number's tests, by cases on its sign
pub natural_negative : (z : ℤ) → lt_z z (pos 0) ≡ true → natural z ≡ 0
unfolding natural
natural_negative (pos n) h = absurd (omega (arith, ltb-true n 0 h))
natural_negative (negsuc n) h = refl

pub natural_positive : (z : ℤ) → lt_z z (pos 0) ≡ false → T (non_neg z) × (nat_abs z ≡ natural z)
unfolding natural
natural_positive (pos n) h = (tt, refl)
natural_positive (negsuc n) h = absurd (false≢true (sym h))

pub flag_negative : (z : ℤ) → lt_z z (pos 0) ≡ true → flag_of z ≡ 2
unfolding flag_of
flag_negative (pos n) h = absurd (omega (arith, ltb-true n 0 h))
flag_negative (negsuc n) h = refl

pub flag_positive : (z : ℤ) → lt_z z (pos 0) ≡ false → flag_of z ≡ min (natural z) 2
unfolding natural flag_of
flag_positive (pos n) h = refl
flag_positive (negsuc n) h = absurd (false≢true (sym h))

module _ (z : ℤ) (n : ℕ) (is : n ≡ natural z) where
  pub side_fits : one_to most_side n ≡ true → side_of z ≡ Some n
  unfolding side_of
  side_fits h = rw (← is) (pick_yes (Some n) None h)

  pub side_bad : one_to most_side n ≡ false → side_of z ≡ None
  unfolding side_of
  side_bad h = rw (← is) (pick_no (Some n) None h)

-- a side that fits lies within the limits
pub side_range : (z : ℤ) (n : ℕ) → side_of z ≡ Some n → (1 ≤ n) × (n ≤ most_side)
unfolding side_of
side_range z n e = go (one_to most_side (natural z)) refl e where
  go : (b : Bool) → one_to most_side (natural z) ≡ b → pick b (Some (natural z)) None ≡ Some n → (1 ≤ n) × (n ≤ most_side)
  go true t e =
      let is : natural z ≡ n = cc in
      rw (← is) ((one_to_lem most_side (natural z)).sound t)
  go false t e = cc
