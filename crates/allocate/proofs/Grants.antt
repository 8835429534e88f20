-- Allocate: what the code does over the tables comes to what the rules say of the atlas that is met there. Assumes nothing.
use Rattle.std.specs.Prelude.{◌≡◌, Option, None, Some, Ok, Err}
use Rattle.numbers.specs.Library.{ℕ, refl, sym, ap, ◌∙◌, subst, inl, inr, ⊎_elim, Bool, true, false, not, List, ℤ}
use Rattle.numbers.specs.Prelude.{pick, Decides, refusal_number, asked, Placeable}
use Rattle.numbers.proofs.Placing.{asked_placeable}
use Rattle.numbers.specs.declared.request.Asked.{Asked}
use Rattle.numbers.specs.declared.refusal.Refusal.{Refusal}
use Rattle.numbers.specs.declared.refusal.Refusal.TheVariants as refusal
use Rattle.rows.specs.declared.{header.Header.Header, live.Live.Live}
use Rattle.rules.specs.Prelude.{Outcome, refused, mapped, Given, room_in, atlas_in, Passes, allocate, Allocate, is_create, tells, step_in, step_without, step}
use Rattle.rules.specs.Prelude.{Answers, Leaves, header_kept, Asks, passes, Comes, Promise}
use Rattle.rules.specs.Grant as rule
use Rattle.rules.specs.Step.{item}
use Rattle.rows.specs.State.{State, state}
use Rattle.search.specs.Search.{Held, nothing, good, bad, IsHeld, place_of, search}
use Rattle.plan.specs.Plan.{plan_at, has_rows}
use Rattle.plan.specs.declared.Plan.{Plan}
use Rattle.grant.specs.Grant.{PlanThere, grant_at}
use Rattle.search.specs.declared.Place.{Place}
use Rattle.search.proofs.Answered.{none_held, some_held}
use Rattle.bridge.proofs.Calls.{grant_nothing, grant_few, grant_placed, grant_there}
use Rattle.promises.specs.Prelude.{says, grants, Allocates}
use Rattle.promises.specs.declared.answers.Answered.{Answered}
use Rattle.promises.proofs.Numbered.{answered, allocate_numbered}
use Rattle.promises.proofs.Cases.{owed, unchanged, fails_first, refuses}
use Rattle.allocate.specs.Placing.{RefusedWith, GrantedAs, GrantsAs, GrantsThere, GrantsHeld, GrantsAsked}

-- ---- a request that passed checks 4 and 5, over the tables

module _ (h : Header) (S I : List ℕ) (q : Asked) where
  module _ (p : Place) (plan : Plan) (planned : plan ≡ plan_at h S I p q) where
    pub refused_there : has_rows h S I plan ≡ false → (r : Answered Live) → r ≡ record { answer = Err refusal.TooFewRows; header = h } → GrantsThere h S I q r S I p
    unfolding GrantsThere
    refused_there e r is = subst (GrantsAs h S I q r S I) planned (rw (e, is) (refl, unchanged))

    pub granted_there : has_rows h S I plan ≡ true → (header : Header) (S' I' : List ℕ) → state header S' I' ≡ grant_at (state h S I) plan
        → GrantsThere h S I q (record { answer = Ok plan.live; header = header }) S' I' p
    unfolding GrantsThere
    granted_there e header S' I' are = subst (GrantsAs h S I q (record { answer = Ok plan.live; header = header }) S' I') planned (rw e (refl, are))

  -- the place that the search answers, or none
  module _ (pass : Passes h S I) (found : Option Place) (answered-so : found ≡ place_of (search h S I q)) where
    pub asked_none : found ≡ None → (r : Answered Live) → r ≡ record { answer = Err refusal.NoPlace; header = h } → GrantsAsked h S I q r S I
    unfolding GrantsAsked
    asked_none e r is = rw (none_held (search h S I q) (sym answered-so ∙ e), is) (refl, unchanged)

    module _ (p : Place) (e : found ≡ Some p) where
      held : IsHeld p (search h S I q)
      held = some_held p (search h S I q) (sym answered-so ∙ e)

      pub asked_some : (r : Answered Live) (S' I' : List ℕ) → GrantsThere h S I q r S' I' p → GrantsAsked h S I q r S' I'
      unfolding GrantsAsked
      asked_some r S' I' there = ⊎_elim (λ (depth, k). rw k there) (λ k. rw k there) held

      -- what the grant there relies on
      pub asked_there : PlanThere S I (plan_at h S I p q)
      asked_there = grant_there h S I pass q p held

-- ---- as the rules grant it

module _ (h : Header) (S I : List ℕ) (p : Passes h S I) (w height : ℤ) (r : Answered Live) (S' I' : List ℕ) where
  -- the outcome of a grant, said and left
  abbrev AsRules : Outcome (Given Live) → Type 0
  AsRules o = Comes (Allocate w height) (Answers grants (Allocate w height) r.answer) h S I r.header S' I' (mapped (λ (g : Given Live). tells g.atlas (item g.told)) o)

  pub refused_so : (q : Asked) (e : Refusal) → RefusedWith h S I q r S' I' e → AsRules (refused (refusal_number e))
  unfolding mapped Leaves header_kept is_create grants says
  refused_so q e (answer, same) = record { says = answered (allocate_numbered w height) r.answer (ap grants.says answer); leaves = same }

  module _ (q : Asked) (within : Placeable h.limits q) where
    there : (at : Place) → IsHeld at (search h S I q) → GrantsThere h S I q r S' I' at → AsRules (rule.grant (room_in S I) (atlas_in h S I) q)
    unfolding GrantsThere mapped Leaves tells grants says
    there at o had = go (has_rows h S I (plan_at h S I at q)) refl had where
      go : (b : Bool) → has_rows h S I (plan_at h S I at q) ≡ b → pick b (GrantedAs h S I q r S' I' (plan_at h S I at q)) (RefusedWith h S I q r S' I' refusal.TooFewRows) → AsRules (rule.grant (room_in S I) (atlas_in h S I) q)
      go true e (answer, are) =
          let (a', is, becomes) = grant_placed h S I p q within at o e in
          rw is (record {
            says = answered (allocate_numbered w height) r.answer (ap grants.says answer);
            leaves = rw (ap (λ (x : State). x.header) are, ap (λ (x : State). x.shelves) are, ap (λ (x : State). x.items) are) becomes;
          })
      go false e had = rw (grant_few h S I p q at o e) (refused_so q refusal.TooFewRows had)

    as_rules : GrantsAsked h S I q r S' I' → AsRules (rule.grant (room_in S I) (atlas_in h S I) q)
    unfolding GrantsAsked GrantsHeld
    as_rules had = go (search h S I q) refl had where
      go : (x : Held) → search h S I q ≡ x → GrantsHeld h S I q r S' I' x → AsRules (rule.grant (room_in S I) (atlas_in h S I) q)
      go nothing e had = rw (grant_nothing h S I p q e) (refused_so q refusal.NoPlace had)
      go (good at depth) e had = there at (inl (depth, e)) had
      go (bad at) e had = there at (inr e) had

-- ---- 3, then 4 and 5, then what the atlas gives

module _ (h : Header) (S I : List ℕ) (w height : ℤ) where
  pub allocates_3 : {test : Bool} → Decides test (Passes h S I) → not test ≡ true → (r : Answered Live) → r ≡ record { answer = Err refusal.Audit; header = h } → Allocates h S I w height r S I
  unfolding Allocates Asks step_without is_create grants says
  allocates_3 d e r is = rw is (fails_first (Allocate w height) _ h S I d e refl refl (answered (allocate_numbered w height) (Err refusal.Audit) refl))

  module _ (p : Passes h S I) where
    pub allocates_asked : (q : Asked) → asked h.limits w height ≡ Ok q
        → (r : Answered Live) (S' I' : List ℕ) → GrantsAsked h S I q r S' I' → Allocates h S I w height r S' I'
    unfolding Allocates Promise Asks step step_in allocate atlas_in
    allocates_asked q e r S' I' had =
        passes p (rw (e, allocate) (as_rules h S I p w height r S' I' q (asked_placeable h.limits q p.rule1.limits w height e) had))

    pub allocates_refused : (refusal : Refusal) → asked h.limits w height ≡ Err refusal
        → (r : Answered Live) → r ≡ record { answer = Err refusal; header = h } → Allocates h S I w height r S I
    unfolding Allocates Asks step_in allocate atlas_in mapped is_create grants says
    allocates_refused refusal e r is =
        rw is (refuses (Allocate w height) _ h S I (owed p) refl (refusal_number refusal) (λ p. rw (e, allocate)) refl (answered (allocate_numbered w height) (Err refusal) refl))
