-- A line has one outcome: what is right after it determines the text, the header and every number of both tables. Assumes nothing.
use Rattle.std.specs.Prelude.{◌≡◌, Option}
use Rattle.numbers.specs.Library.{ℕ, sym, ◌∙◌, List}
use Rattle.rows.specs.declared.header.Header.{Header}
use Rattle.promises.proofs.Outcomes.{SameTables, one_promise}
use Rattle.lines.specs.declared.command.Command.{Command}
use Rattle.script_rules.specs.Answers.{call_of}
use Rattle.script_rules.specs.Step.{Doing}

pub one_step : (command : Option Command) (h : Header) (S I : List ℕ) (h₁ : Header) (S₁ I₁ text₁ : List ℕ) (h₂ : Header) (S₂ I₂ text₂ : List ℕ)
    → Doing h S I command h₁ S₁ I₁ text₁ → Doing h S I command h₂ S₂ I₂ text₂ → (text₁ ≡ text₂) × SameTables (call_of command) h S I h₁ S₁ I₁ h₂ S₂ I₂
unfolding Doing
one_step command h S I h₁ S₁ I₁ text₁ h₂ S₂ I₂ text₂ = one_promise (call_of command) h S I h₁ S₁ I₁ h₂ S₂ I₂ (λ o a b. a ∙ sym b)
