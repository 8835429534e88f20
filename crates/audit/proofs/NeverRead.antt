-- "Numbers after the used rows are never read", for the verdict: it is given by which rules hold, and each rule holds for both of two states alike in
-- their used rows or for neither, where the rules before it hold. So a verdict that is exact for one is exact for the other. Assumes nothing.
use Rattle.std.specs.Prelude.{◌≡◌}
use Rattle.numbers.specs.Library.{ℕ, List}
use Rattle.rows.specs.declared.header.Header.{Header}
use Rattle.chains.specs.Prelude.{◌iff◌}
use Rattle.rules.specs.Prelude.{Rule1, Rule2, Rule3, Rule5, Rule6, Rule7}
use Rattle.rules.specs.Audit as rules
use Rattle.laws.specs.Same.{SameRead, SameVerdict}
use Rattle.laws.proofs.Stored.Reading.{no_row_twice, same_verdict}
use Rattle.audit.specs.declared.Verdict.{Verdict}
use Rattle.audit.specs.Verdicts.{Exact, one_verdict}

-- ---- the first rule that fails for one state is the first that fails for the other

module _ (h : Header) (S S' I I' : List ℕ) (same : SameVerdict h S S' I I') where
  first_1 : (¬ Rule1 h S I) → ¬ Rule1 h S' I'
  first_1 n one = n (same.rule1.1 one)

  first_2 : Rule1 h S I × (¬ Rule2 h S I) → Rule1 h S' I' × (¬ Rule2 h S' I')
  first_2 (one, n) = let one' = same.rule1.0 one in (one', λ two. n (same.rule2.1 (one', two)).1)

  first_3 : Rule1 h S I × Rule2 h S I × (¬ Rule3 h S I) → Rule1 h S' I' × Rule2 h S' I' × (¬ Rule3 h S' I')
  first_3 (one, two, n) =
      let (one', two') = same.rule2.0 (one, two) in
      (one', two', λ three. n (same.rule3.1 (one', two', three)).2)

  -- rule 4 follows from the first three, so where rules 5 to 7 held beside them all would
  first_5 : Rule1 h S I × Rule2 h S I × Rule3 h S I × (¬ (Rule5 h S I × Rule6 h S I × Rule7 h S I))
      → Rule1 h S' I' × Rule2 h S' I' × Rule3 h S' I' × (¬ (Rule5 h S' I' × Rule6 h S' I' × Rule7 h S' I'))
  first_5 (one, two, three, n) =
      let (one', two', three') = same.rule3.0 (one, two, three) in (
        one',
        two',
        three',
        λ (five, six, seven).
            let all : rules.Passes h S I = same.passes.1 (record {
              rule1 = one';
              rule2 = two';
              rule3 = three';
              rule4 = no_row_twice h S' I' one' two' three';
              rule5 = five;
              rule6 = six;
              rule7 = seven;
            }) in
            n (all.rule5, all.rule6, all.rule7),
      )

-- ---- the verdict

back : {h : Header} {S S' I I' : List ℕ} → SameVerdict h S S' I I' → SameVerdict h S' S I' I
back same = record {
  rule1 = (same.rule1.1, same.rule1.0);
  rule2 = (same.rule2.1, same.rule2.0);
  rule3 = (same.rule3.1, same.rule3.0);
  passes = (same.passes.1, same.passes.0);
  for_clear = (same.for_clear.1, same.for_clear.0);
}

through : {A B C : Type 0} → A iff B → (B → C) → (C → B) → A iff C
through (f, g) there again = (λ a. there (f a), λ c. g (again c))

module _ (h : Header) (S S' I I' : List ℕ) (read : SameRead h S S' I I') where
  -- what is exact for one is exact for the other
  pub exact_alike : (v : Verdict) → Exact h S I v → Exact h S' I' v
  exact_alike v x =
      let same : SameVerdict h S S' I I' = same_verdict h S S' I I' read in
      let same' : SameVerdict h S' S I' I = back same in
      record {
        passes = through x.passes same.passes.0 same.passes.1;
        rule1 = through x.rule1 (first_1 h S S' I I' same) (first_1 h S' S I' I same');
        rule2 = through x.rule2 (first_2 h S S' I I' same) (first_2 h S' S I' I same');
        rule3 = through x.rule3 (first_3 h S S' I I' same) (first_3 h S' S I' I same');
        rules5to7 = through x.rules5to7 (first_5 h S S' I I' same) (first_5 h S' S I' I same');
      }

  -- "Tables of the same lengths that agree on the used rows get the same verdict": whatever the audit answers for each
  pub one_verdict_alike : (v w : Verdict) → Exact h S I v → Exact h S' I' w → v ≡ w
  one_verdict_alike v w a b = one_verdict h S' I' v w (exact_alike v a) b
