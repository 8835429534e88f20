-- A number rounded up to a multiple of a step, and the law of it for any step of at least 1. Assumes nothing.
use Rattle.std.specs.Prelude.{◌+◌, ◌-◌, ◌*◌, ◌/◌, ◌%◌, ◌<◌, ◌≤◌, ◌≡◌}
use Rattle.numbers.specs.Library.{ℕ, suc, mod-lt, div-add-mod', suc-mul, mul-le-mul_right, ℕ_discrete, dec_lt}
use Rattle.numbers.specs.Library.{arith, eqb, eq-eqb, ne_eqb}
use Rattle.std.proofs.Math.Nat.{mul-mod_left}
use Rattle.std.proofs.Common.{div-lt_iff_lt-mul}
use Rattle.numbers.specs.Pick.{pick, pick_yes, pick_no, pick_same}

-- n itself where it is a multiple of the step, else n with what its remainder lacks of the step
unfoldable pub round_up : ℕ → ℕ → ℕ
round_up step n = pick (eqb (n % step) 0) n (n + (step - n % step))

-- r is the least multiple of the step that is no less than n
pub record RoundsUp (step n r : ℕ) : Type 0 where
  pub multiple : r % step ≡ 0
  pub enough : n ≤ r
  pub near : r < n + step
  pub least : (m : ℕ) → m % step ≡ 0 → n ≤ m → r ≤ m

pub round_exact : (step n : ℕ) → n % step ≡ 0 → round_up step n ≡ n
unfolding round_up
round_exact step n e = pick_yes n _ (eq-eqb (n % step) 0 e)

pub round_over : (step n : ℕ) → (n % step ≡ 0 → ⊥) → round_up step n ≡ n + (step - n % step)
unfolding round_up
round_over step n e = pick_no n _ (ne_eqb (n % step) 0 e)

-- no step, nothing to fill up
pub round_none : (n : ℕ) → round_up 0 n ≡ n
unfolding round_up
round_none n = pick_same (eqb (n % 0) 0) n _ (omega arith)

module _ (step n : ℕ) (some : 1 ≤ step) where
  exact : n % step ≡ 0 → RoundsUp step n n
  exact e = record { multiple = e; enough = omega arith; near = omega arith; least = λ m _ h. h }

  over : (n % step ≡ 0 → ⊥) → RoundsUp step n (n + (step - n % step))
  over e = record {
    multiple = rw next (mul-mod_left (suc (n / step)) step);
    enough = omega arith;
    near = omega (arith, mod-lt n some);
    least = λ m z h. go m z h (dec_lt m (n + (step - n % step)));
  } where
    next : n + (step - n % step) ≡ suc (n / step) * step
    next = omega (arith, div-add-mod' n step, suc-mul (n / step) step, mod-lt n some)

    -- a multiple below the next one is at most the last one, and that is less than n
    go : (m : ℕ) → m % step ≡ 0 → n ≤ m → Dec (m < n + (step - n % step)) → n + (step - n % step) ≤ m
    go m z h (no f) = omega arith
    go m z h (yes l) =
        let q : m / step < suc (n / step) = (div-lt_iff_lt-mul some).1 (rw next at l) in
        let k : m / step * step ≤ n / step * step = mul-le-mul_right step (omega arith) in
        absurd (omega (arith, div-add-mod' n step, div-add-mod' m step))

  -- rounding up to any step of at least 1
  pub rounds_up : RoundsUp step n (round_up step n)
  rounds_up = go (ℕ_discrete (n % step) 0) where
    go : Dec (n % step ≡ 0) → RoundsUp step n (round_up step n)
    go (yes e) = rw (round_exact step n e) (exact e)
    go (no e) = rw (round_over step n e) (over e)
