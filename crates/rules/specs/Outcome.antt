-- What every call comes to: a refusal with a number of document 01's table, or what was asked for. Assumes nothing.
use Rattle.numbers.specs.Library.{ℕ}
use Rattle.rules.specs.Atlas.{Atlas}

pub data Outcome (A : Type 0) : Type 0 where
  refused : ℕ → Outcome A
  gives : A → Outcome A

-- the same outcome, with what is made of what is given
unfoldable pub mapped : {A B : Type 0} → (A → B) → Outcome A → Outcome B
mapped f (refused n) = refused n
mapped f (gives a) = gives (f a)

-- What a call gives: what it tells, and the atlas that stands after it.
pub record Given (A : Type 0) : Type 0 where
  pub told : A
  pub atlas : Atlas

-- the atlas that stands after a call; a refusal keeps the one that stood before it
abbrev pub standing : {A : Type 0} → Atlas → Outcome (Given A) → Atlas
standing a (refused n) = a
standing a (gives g) = g.atlas
