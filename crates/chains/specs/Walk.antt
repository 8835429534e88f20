-- Walks along links that nobody has checked yet: the rows that are met, and what it is for them to be a chain along which a rule holds.
-- Assumes nothing.
use Rattle.std.specs.Prelude.{◌<◌, ◌≡◌, ◌∷◌}
use Rattle.numbers.specs.Library.{ℕ, zero, suc, List, [], eqb}
use Rattle.numbers.specs.Prelude.{pick, no_row}
use Rattle.chains.specs.Chain.{first_of}

-- the rows that are met from `at` on, at most `steps` of them
abbrev pub rows_from : (ℕ → ℕ) → ℕ → ℕ → List ℕ
rows_from next zero at = []
rows_from next (suc steps) at = pick (eqb at no_row) [] (at ∷ rows_from next steps (next at))

-- these are used rows, each names the following one as the next, and the last names no row
abbrev pub Ends : (ℕ → ℕ) → ℕ → List ℕ → Type 0
Ends next used [] = Unit {0}
Ends next used (r ∷ rest) = (r < used) × (next r ≡ first_of rest) × Ends next used rest

-- The chain from row `at` on ends, among `used` rows: at most so many are met, and the last names no row.
pub record EndsFrom (next : ℕ → ℕ) (used at : ℕ) : Type 0 where
  pub starts : first_of (rows_from next used at) ≡ at
  pub ends : Ends next used (rows_from next used at)

-- Along these rows, from the state `s` on: each is right in the state in which it is met, and the state after the last is a good end.
abbrev pub Holds : {σ : Type 0} → (σ → ℕ → Type 0) → (σ → ℕ → σ) → (σ → Type 0) → σ → List ℕ → Type 0
Holds right over good s [] = good s
Holds right over good s (r ∷ rest) = right s r × Holds right over good (over s r) rest

-- The chain from row `at` on, among `used` rows: it ends, and along it, from the state `s` on, the rule holds.
pub record Walk {σ : Type 0} (next : ℕ → ℕ) (right : σ → ℕ → Type 0) (over : σ → ℕ → σ) (good : σ → Type 0) (used at : ℕ) (s : σ) : Type 0 where
  pub starts : first_of (rows_from next used at) ≡ at
  pub ends : Ends next used (rows_from next used at)
  pub holds : Holds right over good s (rows_from next used at)
