-- The five verdicts exclude one another: what the audit has decided where it gives one makes that one exact. Assumes nothing.
use Rattle.numbers.specs.Library.{refl, List, ℕ}
use Rattle.rows.specs.declared.header.Header.{Header}
use Rattle.rules.specs.Prelude.{Rule1, Rule2, Rule3}
use Rattle.rules.specs.Audit as rules
use Rattle.laws.proofs.Stored.Reading.{no_row_twice}
use Rattle.audit.specs.declared.Verdict.TheVariants as says
use Rattle.audit_counts.specs.declared.Totals.{Totals}
use Rattle.audit_counts.specs.Counts.{AllCounts, ListsAgree}
use Rattle.audit.specs.Verdicts.{Exact}
use Rattle.audit_counts.proofs.Agree.{agree_5, agree_6, agree_7, rules_agree}

module _ (h : Header) (S I : List ℕ) where
  pub holds : rules.Passes h S I → Exact h S I says.Passes
  holds a = record {
    passes = (λ e. a, λ p. refl);
    rule1 = (λ e. cc, λ p. absurd (p a.rule1));
    rule2 = (λ e. cc, λ p. absurd (p.1 a.rule2));
    rule3 = (λ e. cc, λ p. absurd (p.2 a.rule3));
    rules5to7 = (λ e. cc, λ p. absurd (p.3 (a.rule5, a.rule6, a.rule7)));
  }

  module _ (one : Rule1 h S I) where
    module _ (two : Rule2 h S I) where
      module _ (three : Rule3 h S I) (t : Totals) (n : AllCounts h S I t) where
        pub fails_5 : (ListsAgree h S I t → ⊥) → Exact h S I says.Rules5To7
        fails_5 no' = record {
          passes = (λ e. cc, λ p. absurd (no' (rules_agree one two three t n p.rule5 p.rule6 p.rule7)));
          rule1 = (λ e. cc, λ p. absurd (p one));
          rule2 = (λ e. cc, λ p. absurd (p.1 two));
          rule3 = (λ e. cc, λ p. absurd (p.2 three));
          rules5to7 = (λ e. (one, two, three, λ r. no' (rules_agree one two three t n r.0 r.1 r.2)), λ p. refl);
        }

        pub all_hold : ListsAgree h S I t → Exact h S I says.Passes
        all_hold a = holds (record {
          rule1 = one;
          rule2 = two;
          rule3 = three;
          rule4 = no_row_twice h S I one two three;
          rule5 = agree_5 one two three t n a;
          rule6 = agree_6 one two three t n a;
          rule7 = agree_7 one two three t n a;
        })
