-- Flags as numbers and as truth values. Assumes nothing.
use Rattle.std.specs.Prelude.{◌≤◌, ◌≡◌}
use Rattle.numbers.specs.Library.{ℕ, zero, suc, refl, Bool, true, false, not, arith, eqb}
use Rattle.rules.specs.Prelude.{flag}

pub flag_live : (b : Bool) → not (eqb (flag b) 0) ≡ b
flag_live true = refl
flag_live false = refl

pub flag_most : (b : Bool) → flag b ≤ 1
flag_most true = omega arith
flag_most false = omega arith

-- an allocated flag, once read
pub flag_read : (n : ℕ) → n ≤ 1 → flag (not (eqb n 0)) ≡ n
flag_read zero b = refl
flag_read (suc n) b = let e : n ≡ 0 = omega arith in rw e
