-- Widths that are or-ed together are tested against an alignment all at once, where it is a power of two: the low digits of the whole are 0
-- exactly when those of each are. Assumes nothing.
use Rattle.std.specs.Prelude.{◌≡◌, ◌-◌, ◌/◌, ◌%◌, ◌^◌, ◌≤◌}
use Rattle.numbers.specs.Library.{sym, ◌∙◌, ℕ, suc, ℕ_discrete, arith}
use native.Mathlib.Nat.{pow-suc}
use lib.Arith.{bin_ind}
use lib.Bits.{bit_and, bit_or, and_step, and_self, and_le_l, and_le_r, or_mod, or_add_and}

-- ---- a power of two

-- the test tells of n that it is one
abbrev Tells : ℕ → Type 0
Tells n = 1 ≤ n → bit_and n (n - 1) ≡ 0 → (k : ℕ) × (n ≡ 2 ^ k)

-- An even number passes the test only if its half does. An odd one shares all its digits but the last with the number below it, so it has no other.
halved : (n : ℕ) → Tells (n / 2) → Tells n
halved n half some e = go (ℕ_discrete (n % 2) 0) where
  go : Dec (n % 2 ≡ 0) → (k : ℕ) × (n ≡ 2 ^ k)
  go (yes even) =
      let below : (n - 1) / 2 ≡ n / 2 - 1 = omega arith in
      let (k, is) = half (omega arith) (omega (arith, rw below at (and_step n (n - 1)))) in
      (suc k, omega (arith, pow-suc 2 k))
  go (no odd) =
      let below : (n - 1) / 2 ≡ n / 2 = omega (arith, odd) in
      (0, omega (arith, odd, rw (below, and_self (n / 2)) at (and_step n (n - 1))))

pub power_of_two : (n : ℕ) → 1 ≤ n → bit_and n (n - 1) ≡ 0 → (k : ℕ) × (n ≡ 2 ^ k)
power_of_two = bin_ind Tells (λ some e. absurd (omega arith)) halved

-- ---- the low digits

pub or_even : (k a b : ℕ) → bit_or a b % 2 ^ k ≡ 0 → (a % 2 ^ k ≡ 0) × (b % 2 ^ k ≡ 0)
or_even k a b e =
    let low : bit_or (a % 2 ^ k) (b % 2 ^ k) ≡ 0 = sym (or_mod a b k) ∙ e in
    let sum = or_add_and (a % 2 ^ k) (b % 2 ^ k) in
    (omega (arith, and_le_r (a % 2 ^ k) (b % 2 ^ k)), omega (arith, and_le_l (a % 2 ^ k) (b % 2 ^ k)))

pub even_or : (k a b : ℕ) → a % 2 ^ k ≡ 0 → b % 2 ^ k ≡ 0 → bit_or a b % 2 ^ k ≡ 0
even_or k a b e f = or_mod a b k ∙ rw (e, f)

-- ---- the alignment

module _ (step a b : ℕ) (some : 1 ≤ step) (power : bit_and step (step - 1) ≡ 0) where
  pub or_aligned : bit_or a b % step ≡ 0 → (a % step ≡ 0) × (b % step ≡ 0)
  or_aligned e = let (k, is) = power_of_two step some power in rw is (or_even k a b (rw is at e))

  pub aligned_or : a % step ≡ 0 → b % step ≡ 0 → bit_or a b % step ≡ 0
  aligned_or e f = let (k, is) = power_of_two step some power in rw is (even_or k a b (rw is at e) (rw is at f))
