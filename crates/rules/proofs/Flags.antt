-- A flag as the tables hold it, 0 or 1. Assumes nothing.
use Rattle.std.specs.Prelude.{◌≡◌}
use Rattle.numbers.specs.Library.{refl, Bool, true, false, eqb}
use Rattle.rules.specs.Prelude.{flag}

pub flag_one : (b : Bool) → eqb (flag b) 1 ≡ b
flag_one true = refl
flag_one false = refl
