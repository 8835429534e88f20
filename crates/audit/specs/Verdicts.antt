-- What the audit answers: that all of document 01's rules hold, or the first that fails. Assumes nothing.
use Rattle.std.specs.Prelude.{◌≡◌}
use Rattle.numbers.specs.Library.{ℕ, refl, sym, List}
use Rattle.rows.specs.declared.header.Header.{Header}
use Rattle.chains.specs.Prelude.{◌iff◌}
use Rattle.rules.specs.Prelude.{Rule1, Rule2, Rule3, Rule5, Rule6, Rule7}
use Rattle.rules.specs.Audit as rules
use Rattle.audit.specs.declared.Verdict.{Verdict}
use Rattle.audit.specs.declared.Verdict.TheVariants as says

-- Each verdict is given exactly when it is true. Rule 4 follows from 2 and 3, so that it is never the first to fail.
pub record Exact (h : Header) (S I : List ℕ) (v : Verdict) : Type 0 where
  pub passes : (v ≡ says.Passes) iff rules.Passes h S I
  pub rule1 : (v ≡ says.Rule1) iff (¬ Rule1 h S I)
  pub rule2 : (v ≡ says.Rule2) iff (Rule1 h S I × (¬ Rule2 h S I))
  pub rule3 : (v ≡ says.Rule3) iff (Rule1 h S I × Rule2 h S I × (¬ Rule3 h S I))
  pub rules5to7 : (v ≡ says.Rules5To7) iff (Rule1 h S I × Rule2 h S I × Rule3 h S I × (¬ (Rule5 h S I × Rule6 h S I × Rule7 h S I)))

-- one verdict for any header and tables
pub one_verdict : (h : Header) (S I : List ℕ) (v w : Verdict) → Exact h S I v → Exact h S I w → v ≡ w
one_verdict h S I says.Passes w a b = sym (b.passes.1 (a.passes.0 refl))
one_verdict h S I says.Rule1 w a b = sym (b.rule1.1 (a.rule1.0 refl))
one_verdict h S I says.Rule2 w a b = sym (b.rule2.1 (a.rule2.0 refl))
one_verdict h S I says.Rule3 w a b = sym (b.rule3.1 (a.rule3.0 refl))
one_verdict h S I says.Rules5To7 w a b = sym (b.rules5to7.1 (a.rules5to7.0 refl))
