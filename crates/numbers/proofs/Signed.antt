-- A signed number that is handed on reaches the callee through its bits, and is the number that was given.
use Rattle.std.specs.Prelude.{◌≡◌}
use Rattle.numbers.specs.Library.{ap, ◌∙◌, ℤ, w32, SFits, to_z, of_z, to_z-of_z}

pub as_given : {A : Type 0} (f : ℤ → A) {r : A} {z : ℤ} → SFits w32 z → r ≡ f (to_z w32 (of_z w32 z)) → r ≡ f z
as_given f fits e = e ∙ ap f (to_z-of_z fits)
