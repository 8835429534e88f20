-- Lists of rows and of what lies in them: membership, distinctness, a place in a list. Assumes nothing.
use Rattle.std.specs.Prelude.{◌∷◌, ◌++◌}
use Rattle.numbers.specs.Library.{ℕ, List, [], List-as-Memᴰ}

abbrev pub ◌∈◌ : ℕ → List ℕ → Type 0
r ∈ rows = List-as-Memᴰ r rows

infix 40 ◌∈◌
abbrev pub ◌iff◌ : Type 0 → Type 0 → Type 0
A iff B = (A → B) × (B → A)

infix 20 ◌iff◌
-- no row stands twice
abbrev pub Distinct : List ℕ → Type 0
Distinct [] = Unit {0}
Distinct (r ∷ rest) = (¬ (r ∈ rest)) × Distinct rest

-- no row is in both
abbrev pub Apart : List ℕ → List ℕ → Type 0
Apart l m = (r : ℕ) → r ∈ l → r ∈ m → ⊥

-- each element has P
abbrev pub Each : {E : Type 0} → (E → Type 0) → List E → Type 0
Each P [] = Unit {0}
Each P (e ∷ rest) = P e × Each P rest

-- each element and the next
abbrev pub Neighbours : {E : Type 0} → (E → E → Type 0) → List E → Type 0
Neighbours R [] = Unit {0}
Neighbours R (a ∷ []) = Unit {0}
Neighbours R (a ∷ b ∷ rest) = R a b × Neighbours R (b ∷ rest)

-- the rows of all the elements
abbrev pub gather : {E : Type 0} → (E → List ℕ) → List E → List ℕ
gather f [] = []
gather f (e ∷ rest) = f e ++ gather f rest

-- An element of a list with what stands before it, the nearest first, and what stands after it.
pub record Focus (A : Type 0) : Type 0 where
  pub before : List A
  pub this : A
  pub after : List A

-- the list again: what stands before goes back in front, one by one
abbrev pub back_onto : {A : Type 0} → List A → List A → List A
back_onto [] ys = ys
back_onto (x ∷ xs) ys = back_onto xs (x ∷ ys)
