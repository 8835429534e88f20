-- How the public calls' answers are read: what each says, and in which of document 01's numbers: 0 and the values for a success; for a refusal its
-- number, and zeros. Assumes nothing.
use Rattle.std.specs.Prelude.{◌∷◌, Result, Ok, Err}
use Rattle.numbers.specs.Library.{ℕ, List, [], Bool}
use Rattle.numbers.specs.Prelude.{pick, refusal_number}
use Rattle.numbers.specs.declared.refusal.Refusal.{Refusal}
use Rattle.rules.specs.Prelude.{Outcome, refused, gives}
use Rattle.rules.specs.Step.{zeros}
use Rattle.promises.specs.declared.answers.Sides.{Sides}

-- `value` is what a success says
unfoldable pub says : {T V : Type 0} → (T → V) → Result T Refusal → Outcome V
says value (Ok t) = gives (value t)
says value (Err e) = refused (refusal_number e)

-- `told` are a success's numbers after the 0, and `besides` is how many zeros stand beside a refusal's number
unfoldable pub numbers_of : {T : Type 0} → (T → List ℕ) → ℕ → Result T Refusal → List ℕ
unfolding zeros
numbers_of told besides (Ok t) = 0 ∷ told t
numbers_of told besides (Err e) = refusal_number e ∷ zeros besides

-- ---- the numbers of what is told

abbrev pub one_number : ℕ → List ℕ
one_number n = n ∷ []

abbrev pub no_number : Unit {0} → List ℕ
no_number t = []

abbrev pub side_numbers : Sides → List ℕ
side_numbers s = s.width ∷ s.height ∷ []

abbrev pub truth_number : Bool → List ℕ
truth_number b = pick b 1 0 ∷ []
