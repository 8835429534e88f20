-- A row or a generation, as the library converts it. Assumes nothing.
use Rattle.std.specs.Prelude.{◌≡◌, Result, Ok, Err, Some}
use Rattle.std.specs.Result.{OkIff, result_ok}
use Rattle.std.specs.Int.{FitsUnsignedBits}
use Rattle.numbers.specs.Library.{ℕ, refl, ap, arith, ℤ, pos, negsuc, le-leb, lt-leb}
use lib.IntN.{nat_abs}
use Rattle.lines.specs.Ids.{row_of}

pub row_converted : {E : Type 0} (z : ℤ) (r : Result ℕ E) → OkIff r (FitsUnsignedBits 16 z) (nat_abs z) → result_ok r ≡ row_of z
unfolding row_of
row_converted (pos n) (Ok x) h = simp (le-leb n 65535 (omega arith)) (ap Some h.1)
row_converted (pos n) (Err e) h = simp (lt-leb n 65535 (omega arith))
row_converted (negsuc n) (Ok x) h = absurd h.0
row_converted (negsuc n) (Err e) h = refl
