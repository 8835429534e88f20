-- Tests one after another, as code takes them: it leaves at the first that fails. Assumes nothing.
use Rattle.std.specs.Prelude.{◌≡◌, ◌&&◌}
use Rattle.numbers.specs.Library.{refl, Bool, true, false, not, false≢true}
use Rattle.std.proofs.Common.{true≢false}

-- both of two tests that hold together
pub both : (a b : Bool) → (a && b) ≡ true → (a ≡ true) × (b ≡ true)
both true b e = (refl, e)
both false b e = absurd (false≢true e)

-- r is the outcome of the first test: where it fails nothing else counts, where it holds the others decide
pub stop : (a b : Bool) {r : Bool} → r ≡ a → not r ≡ true → false ≡ (a && b)
stop true b e f = absurd (false≢true (rw e at f))
stop false b e f = refl

pub go_on : (a b : Bool) {r s : Bool} → r ≡ a → not r ≡ false → s ≡ b → s ≡ (a && b)
go_on true b e f g = g
go_on false b e f g = absurd (true≢false (rw e at f))
