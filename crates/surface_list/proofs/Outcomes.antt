-- Any two outcomes that the promise allows are equal: the answer, and every record of the lent list. And numbers after the used rows are never read.
-- Assumes nothing.
use Rattle.std.specs.Prelude.{◌≡◌, Result}
use Rattle.numbers.specs.Library.{ℕ, sym, ◌∙◌, List, length}
use Rattle.numbers.specs.declared.refusal.Refusal.{Refusal}
use Rattle.rows.specs.declared.{header.Header.Header, live.Live.Live}
use Rattle.rules.specs.Prelude.{Outcome, Call, ListIn, Value}
use Rattle.laws.specs.Same.{SameRead}
use Rattle.promises.specs.Prelude.{listings}
use Rattle.promises.proofs.Outcomes.{one_promise}
use Rattle.promises.proofs.NeverRead.{never_read}
use Rattle.surface_list.specs.Lives.{LivesSo, ListsLives}

lives_once : {call : Call} {out out₁ out₂ : List Live} {r₁ r₂ : Result ℕ Refusal} {o : Outcome Value} → LivesSo call out r₁ out₁ o → LivesSo call out r₂ out₂ o
    → (r₁ ≡ r₂) × (out₁ ≡ out₂)
lives_once {r₁ = r₁} {r₂ = r₂} a b = (listings.apart r₁ r₂ (a.answers.says ∙ sym b.answers.says), a.listed ∙ sym b.listed)

pub one_lives : (h : Header) (S I : List ℕ) (out out₁ out₂ : List Live) (r₁ r₂ : Result ℕ Refusal) → ListsLives h S I out r₁ out₁ → ListsLives h S I out r₂ out₂
    → (r₁ ≡ r₂) × (out₁ ≡ out₂)
unfolding ListsLives
one_lives h S I out out₁ out₂ r₁ r₂ a b = (one_promise (ListIn (length out)) h S I h S I h S I (λ o. lives_once) a b).0

pub same_lives : (h : Header) (S T I J : List ℕ) → SameRead h S T I J → (out out₁ out₂ : List Live) (r₁ r₂ : Result ℕ Refusal) → ListsLives h S I out r₁ out₁ → ListsLives h T J out r₂ out₂
    → (r₁ ≡ r₂) × (out₁ ≡ out₂)
unfolding ListsLives
same_lives h S T I J read out out₁ out₂ r₁ r₂ a b = (never_read h S T I J read (ListIn (length out)) h S I h T J (λ o. lives_once) a b).0
