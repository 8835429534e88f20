-- Sums, differences and products that wrap at a width of so many bits, and that they are the numbers' own where nothing wraps.
-- Assumes nothing.
use Rattle.std.specs.Prelude.{◌≡◌, ℕ, ◌+◌, ◌-◌, ◌*◌, ◌%◌, ◌^◌, ◌<◌, ◌≤◌}
use Rattle.std.proofs.Common.{sym, ◌∙◌, mod-eq_of_lt, arith}
use Rattle.std.proofs.Math.Nat.{mod-add-mod, add-mod_right}

-- a number as so many bits hold it, and a difference that borrows where it has to
abbrev pub wrapped : ℕ → ℕ → ℕ
wrapped bits n = n % 2 ^ bits

abbrev pub lessened : ℕ → ℕ → ℕ → ℕ
lessened bits a b = wrapped bits (a + (2 ^ bits - b))

unfoldable pub plus16 : ℕ → ℕ → ℕ
plus16 a b = wrapped 16 (a + b)

unfoldable pub minus16 : ℕ → ℕ → ℕ
minus16 a b = lessened 16 a b

unfoldable pub times16 : ℕ → ℕ → ℕ
times16 a b = wrapped 16 (a * b)

unfoldable pub plus32 : ℕ → ℕ → ℕ
plus32 a b = wrapped 32 (a + b)

unfoldable pub minus32 : ℕ → ℕ → ℕ
minus32 a b = lessened 32 a b

-- ---- where nothing wraps

lessened_is : (bits a b : ℕ) → b ≤ a → a < 2 ^ bits → lessened bits a b ≡ a - b
lessened_is bits a b fits small =
    let e : a + (2 ^ bits - b) ≡ (a - b) + 2 ^ bits = omega arith in
    rw e (add-mod_right (a - b) (2 ^ bits) ∙ mod-eq_of_lt (omega arith))

pub plus16_is : (a b : ℕ) → a + b < 2 ^ 16 → plus16 a b ≡ a + b
unfolding plus16
plus16_is a b small = mod-eq_of_lt small

pub minus16_is : (a b : ℕ) → b ≤ a → a < 2 ^ 16 → minus16 a b ≡ a - b
unfolding minus16
minus16_is a b fits small = lessened_is 16 a b fits small

pub times16_is : (a b : ℕ) → a * b < 2 ^ 16 → times16 a b ≡ a * b
unfolding times16
times16_is a b small = mod-eq_of_lt small

pub plus32_is : (a b : ℕ) → a + b < 2 ^ 32 → plus32 a b ≡ a + b
unfolding plus32
plus32_is a b small = mod-eq_of_lt small

pub minus32_is : (a b : ℕ) → b ≤ a → a < 2 ^ 32 → minus32 a b ≡ a - b
unfolding minus32
minus32_is a b fits small = lessened_is 32 a b fits small

-- a number of so many bits that gives a back when b is added is that difference
pub lessened_by : (bits a b r : ℕ) → b ≤ 2 ^ bits → r < 2 ^ bits → wrapped bits (r + b) ≡ a → r ≡ lessened bits a b
lessened_by bits a b r b-small r_small back =
    let e : r + b + (2 ^ bits - b) ≡ r + 2 ^ bits = omega arith in
    rw (← back) (sym (mod-add-mod (r + b) (2 ^ bits) (2 ^ bits - b) ∙ rw e (add-mod_right r (2 ^ bits) ∙ mod-eq_of_lt r_small)))
