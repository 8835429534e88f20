-- One call on a header and tables that pass: each of demand 3's facts for it. Assumes nothing.
use Rattle.std.specs.Prelude.{◌≡◌, ◌≢◌, Result, Ok, Err}
use Rattle.numbers.specs.Library.{ℕ, refl, sym, ap, ◌∙◌, subst, Option, none, some, [], ℤ, arith}
use Rattle.numbers.specs.Prelude.{asked, refusal_number, same_number}
use Rattle.numbers.specs.declared.{request.Asked.Asked, refusal.Refusal.Refusal}
use Rattle.numbers.specs.declared.refusal.Refusal.TheVariants as refusal
use Rattle.rows.specs.declared.live.Live.{Live}
use Rattle.rows.specs.State.{State}
use Rattle.chains.specs.Prelude.{◌iff◌}
use Rattle.rules.specs.Prelude.{Atlas, Room, atlas_in, Outcome, refused, gives, Given, allocate, release, look_up, live_of, grant, fresh, clear, Found, find_live, release_found, WellFormed}
use Rattle.rules.specs.Prelude.{Value, done}
use Rattle.rules.specs.Step.{item}
use Rattle.laws.specs.Lives.{OneMore}
use Rattle.laws.specs.Places.{NoPlace, TooFew}
use Rattle.laws.proofs.Stored.Reading.{formed}
use Rattle.laws.proofs.Shape.Kept.{fresh_lists_none, answers_6, answers_7, grant_limits, release_limits, grant_covers, covers_raw, grant_lives, release_lives, list_one_more}
use Rattle.promises.specs.Answers.{says}
use Rattle.promises.specs.Prelude.{grants, replies, listings, Allocates, Releases, Lists}
use Rattle.promise.specs.Run.{Did, allocated, released, looked_up, listed, cleared, answered}
use Rattle.promise.specs.Facts.{Pass, atlas, room, live, TakesOne, Changes, Covers, JudgedFirst, RefusedExactly, NoPlaceExactly, TooFewExactly, ListsLive}
use Rattle.promise.proofs.Refusals.{allocate_not_3}
use Rattle.promise.proofs.Steps.{Left, Came, tells_it, refuses_it, Allocating, allocating, Releasing, releasing, Clearing, clears_it, clearing}
use Rattle.promise.proofs.Steps.{looking, Telling, tells_all, too_short, telling}

-- ---- the rules' own calls

-- what is granted was asked for, and granted on the atlas
granted_asked : (room : Room) (a : Atlas) (w height : ℤ) (g : Given Live) → allocate room a w height ≡ gives g
    → (q : Asked) × (asked a.limits w height ≡ Ok q) × (grant room a q ≡ gives g)
unfolding allocate
granted_asked room a w height g = go (asked a.limits w height) refl where
  go : (r : Result Asked Refusal) → asked a.limits w height ≡ r → ◌≡◌ {A = Outcome (Given Live)} (elim r [ Err e ↦ refused (refusal_number e) | Ok q ↦ grant room a q ]) (gives g)
      → (q : Asked) × (asked a.limits w height ≡ Ok q) × (grant room a q ≡ gives g)
  go (Ok q) e k = (q, e, k)
  go (Err n) e k = cc

-- a request that passes checks 4 and 5 is a grant's
passes_on : (room : Room) (a : Atlas) (w height : ℤ) (q : Asked) → asked a.limits w height ≡ Ok q → allocate room a w height ≡ grant room a q
unfolding allocate
passes_on room a w height q e = rw (e, allocate)

released_found : (a : Atlas) (row generation : ℕ) (a' : Atlas) → release a row generation ≡ gives a' → (w : Found) × (find_live a row generation ≡ some w) × (release_found a w ≡ a')
unfolding release
released_found a row generation a' = go (find_live a row generation) refl where
  go : (o : Option Found) → find_live a row generation ≡ o → ◌≡◌ {A = Outcome Atlas} (elim o [ none ↦ refused 8 | some w ↦ gives (release_found a w) ]) (gives a')
      → (w : Found) × (find_live a row generation ≡ some w) × (release_found a w ≡ a')
  go (some w) e k = (w, e, cc)
  go none e k = cc

-- ---- what each call leaves

module _ {st st' : State} {X T : Type 0} {o : Outcome X} {told : X → T} {left : X → Atlas} where
  came_passes : {answer : Result T Refusal} → Pass st → Came st st' o told left answer → Pass st'
  came_passes pass (tells_it x is stands) = stands.pass
  came_passes pass (refuses_it e is same) = subst Pass (sym same) pass

  -- where the rules' call is not refused with 3, the answer says no 3
  came_not_3 : {answer : Result T Refusal} (value : T → Value) → o ≢ refused 3 → Came st st' o told left answer → says value answer ≢ refused 3
  unfolding says
  came_not_3 value n (tells_it x is stands) = λ so. cc
  came_not_3 value n (refuses_it e is same) = λ so. let three : refusal_number e ≡ 3 = cc in n (is ∙ ap refused three)

  came_keeps : {answer : Result T Refusal} (value : T → Value) (n : ℕ) → Came st st' o told left answer → says value answer ≡ refused n → st' ≡ st
  unfolding says
  came_keeps value n (tells_it x is stands) = λ so. cc
  came_keeps value n (refuses_it e is same) = λ so. same

module _ (st st' : State) where
  well_formed : Pass st → WellFormed (room st) (atlas st)
  well_formed pass = formed st.header st.shelves st.items pass

  -- the atlas that is left is well formed
  left_formed : {a' : Atlas} → Left st' a' → WellFormed (room st') a'
  left_formed left = rw left.atlas_is at (formed st'.header st'.shelves st'.items left.pass)

  module _ (pass : Pass st) where
    pub pass_next : Did st st' → Pass st'
    pass_next (allocated w height answer p) = came_passes pass (allocating st st' pass w height answer p)
    pass_next (released row generation answer p) = came_passes pass (releasing st st' pass row generation answer p)
    pass_next (looked_up row generation answer p same) = subst Pass (sym same) pass
    pass_next (listed out answer out' p same) = subst Pass (sym same) pass
    pass_next (cleared answer p) = go (clearing st st' pass answer p) where
      go : {answer : Result (Unit {0}) Refusal} → Clearing st st' answer → Pass st'
      go (clears_it left) = left.pass

    -- no call changes the limits of the atlas
    pub limits_next : Did st st' → st'.header.limits ≡ st.header.limits
    unfolding atlas_in clear fresh
    limits_next (allocated w height answer p) = go (allocating st st' pass w height answer p) where
      go : {answer : Result Live Refusal} → Allocating st st' w height answer → st'.header.limits ≡ st.header.limits
      go (tells_it g e left) =
          let (q, good, granted) = granted_asked (room st) (atlas st) w height g e in
          ap (λ (a : Atlas). a.limits) left.atlas_is ∙ grant_limits (room st) (atlas st) q g.told g.atlas (well_formed pass) granted
      go (refuses_it n e same) = ap (λ (s : State). s.header.limits) same
    limits_next (released row generation answer p) = go (releasing st st' pass row generation answer p) where
      go : {answer : Result (Unit {0}) Refusal} → Releasing st st' row generation answer → st'.header.limits ≡ st.header.limits
      go (tells_it a' e left) =
          let (w, found, is) = released_found (atlas st) row generation a' e in
          ap (λ (a : Atlas). a.limits) (left.atlas_is ∙ sym is) ∙ release_limits (atlas st) w
      go (refuses_it n e same) = ap (λ (s : State). s.header.limits) same
    limits_next (looked_up row generation answer p same) = ap (λ (s : State). s.header.limits) same
    limits_next (listed out answer out' p same) = ap (λ (s : State). s.header.limits) same
    limits_next (cleared answer p) = go (clearing st st' pass answer p) where
      go : {answer : Result (Unit {0}) Refusal} → Clearing st st' answer → st'.header.limits ≡ st.header.limits
      go (clears_it left) = ap (λ (a : Atlas). a.limits) left.atlas_is

    -- "a grant adds exactly the one it tells"
    grant_changes : (w height : ℤ) (v : Live) (a' : Atlas) → allocate (room st) (atlas st) w height ≡ gives (record { told = v; atlas = a' }) → Left st' a' → OneMore v (live st) (live st')
    grant_changes w height v a' e left =
        let (q, good, granted) = granted_asked (room st) (atlas st) w height (record { told = v; atlas = a' }) e in
        rw left.atlas_is
        (list_one_more (room st) (room st') (atlas st) a' v (well_formed pass) (left_formed left) (grant_lives (room st) (atlas st) q v a' (well_formed pass) granted))

    release_changes : (row generation : ℕ) (a' : Atlas) → release (atlas st) row generation ≡ gives a' → Left st' a' → TakesOne row generation (live st) (live st')
    release_changes row generation a' e left =
        let (w, found, is) = released_found (atlas st) row generation a' e in
        let (its_row, its_generation, one) = release_lives (atlas st) row generation w found in
        record {
          taken = live_of (atlas st).limits w.shelf.this w.item.this;
          its_row = its_row;
          its_generation = its_generation;
          one_less = rw left.atlas_is (list_one_more (room st') (room st) a' (atlas st) _ (left_formed left) (well_formed pass) (rw is at one));
        }

    pub changes : (did : Did st st') → Changes did
    unfolding clear fresh
    changes (allocated w height answer p) = go (allocating st st' pass w height answer p) p where
      go : {answer : Result Live Refusal} → Allocating st st' w height answer
          → (p : Allocates st.header st.shelves st.items w height (record { answer = answer; header = st'.header }) st'.shelves st'.items) → Changes (allocated w height answer p)
      go (tells_it g e left) p = grant_changes w height g.told g.atlas e left
      go (refuses_it n e same) p = ap live same
    changes (released row generation answer p) = go (releasing st st' pass row generation answer p) p where
      go : {answer : Result (Unit {0}) Refusal} → Releasing st st' row generation answer
          → (p : Releases st.header st.shelves st.items row generation (record { answer = answer; header = st'.header }) st'.shelves st'.items) → Changes (released row generation answer p)
      go (tells_it a' e left) p = release_changes row generation a' e left
      go (refuses_it n e same) p = ap live same
    changes (looked_up row generation answer p same) = ap live same
    changes (listed out answer out' p same) = ap live same
    changes (cleared answer p) = go (clearing st st' pass answer p) where
      go : {answer : Result (Unit {0}) Refusal} → Clearing st st' answer → (answer ≡ Ok tt) × (live st' ≡ [])
      go (clears_it left) = (refl, rw left.atlas_is (fresh_lists_none (room st') (atlas st).limits (left_formed left)))

    -- "a grant covers the sides asked for"
    pub covers : (did : Did st st') → Covers did
    unfolding atlas_in
    covers (allocated w height answer p) = go (allocating st st' pass w height answer p) p where
      go : {answer : Result Live Refusal} → Allocating st st' w height answer
          → (p : Allocates st.header st.shelves st.items w height (record { answer = answer; header = st'.header }) st'.shelves st'.items) → Covers (allocated w height answer p)
      go (tells_it g e left) p =
          let (q, good, granted) = granted_asked (room st) (atlas st) w height g e in
          covers_raw st.header.limits q pass.rule1.limits w height g.told good (grant_covers (room st) (atlas st) q g.told g.atlas (well_formed pass) granted)
      go (refuses_it n e same) p = tt
    covers (released row generation answer p) = tt
    covers (looked_up row generation answer p same) = tt
    covers (listed out answer out' p same) = tt
    covers (cleared answer p) = tt

    -- an answer is this refusal exactly where the rules' call is refused so
    answer_is : (w height : ℤ) (answer : Result Live Refusal) (k : Refusal) → Allocating st st' w height answer → (answer ≡ Err k) iff (allocate (room st) (atlas st) w height ≡ refused (refusal_number k))
    answer_is w height answer k (tells_it g e left) =
        ((λ is. cc), (λ is. cc))
    answer_is w height answer k (refuses_it n e same) = (
      (λ is. let one : n ≡ k = cc in e ∙ ap (λ (n : Refusal). refused (refusal_number n)) one),
      (λ is. let number : refusal_number n ≡ refusal_number k = cc in ap Err (same_number n k number)),
    )

    -- of a request that passes checks 4 and 5: the refusal is had where the rules' grant is refused so
    exactly : (k : Refusal) (When : State → Asked → Type 0) → ((q : Asked) → (grant (room st) (atlas st) q ≡ refused (refusal_number k)) iff When st q)
        → (did : Did st st') → RefusedExactly k When did
    unfolding atlas_in
    exactly k When rules (allocated w height answer p) = λ q good.
        let (to, from) = rules q in
        let (as_rules, back) = answer_is w height answer k (allocating st st' pass w height answer p) in
        let on : allocate (room st) (atlas st) w height ≡ grant (room st) (atlas st) q = passes_on (room st) (atlas st) w height q good in
        ((λ is. to (sym on ∙ as_rules is)), (λ when. back (on ∙ from when)))
    exactly k When rules (released row generation answer p) = tt
    exactly k When rules (looked_up row generation answer p same) = tt
    exactly k When rules (listed out answer out' p same) = tt
    exactly k When rules (cleared answer p) = tt

    pub judged_first : (did : Did st st') → JudgedFirst did
    unfolding atlas_in allocate
    judged_first (allocated w height answer p) = λ n e. (answer_is w height answer n (allocating st st' pass w height answer p)).1 (rw (e, allocate))
    judged_first (released row generation answer p) = tt
    judged_first (looked_up row generation answer p same) = tt
    judged_first (listed out answer out' p same) = tt
    judged_first (cleared answer p) = tt

    pub no_place_exactly : (did : Did st st') → NoPlaceExactly did
    no_place_exactly = exactly refusal.NoPlace (λ st q. NoPlace q (atlas st).shelves) (λ q. answers_6 (room st) (atlas st) q (well_formed pass))

    pub too_few_exactly : (did : Did st st') → TooFewExactly did
    too_few_exactly = exactly refusal.TooFewRows (λ st q. TooFew (room st) (atlas st) q) (λ q. answers_7 (room st) (atlas st) q (well_formed pass))

    pub lists_live : (did : Did st st') → ListsLive did
    lists_live (listed out answer out' p same) = go (telling st pass out answer out' p) p where
      go : {answer : Result ℕ Refusal} → Telling st out out' answer → (p : Lists st.header st.shelves st.items out answer out') → ListsLive {st = st} {st' = st'} (listed out answer out' p same)
      go (tells_all is) p = (refl, is)
      go (too_short is) p = is
    lists_live (allocated w height answer p) = tt
    lists_live (released row generation answer p) = tt
    lists_live (looked_up row generation answer p same) = tt
    lists_live (cleared answer p) = tt

    -- ---- refusals

    -- release and look-up have 8 only
    only_8 : {X : Type 0} (found : Option Found) (of : Found → X) (n : ℕ) → ◌≡◌ {A = Outcome X} (elim found [ none ↦ refused 8 | some w ↦ gives (of w) ]) (refused n) → n ≡ 8
    only_8 none of n e = cc
    only_8 (some w) of n e = cc

    release_8 : (row generation n : ℕ) → release (atlas st) row generation ≡ refused n → n ≡ 8
    unfolding release
    release_8 row generation n = only_8 (find_live (atlas st) row generation) (release_found (atlas st)) n

    look_8 : (row generation n : ℕ) → look_up (atlas st) row generation ≡ refused n → n ≡ 8
    unfolding look_up
    look_8 row generation n = only_8 (find_live (atlas st) row generation) (λ w. live_of (atlas st).limits w.shelf.this w.item.this) n

    pub no_3 : (did : Did st st') → answered did ≢ refused 3
    unfolding grants replies listings says
    no_3 (allocated w height answer p) = came_not_3 item (allocate_not_3 (room st) (atlas st) (well_formed pass) w height) (allocating st st' pass w height answer p)
    no_3 (released row generation answer p) = came_not_3 (λ t. done) (λ is. omega (arith, release_8 row generation 3 is)) (releasing st st' pass row generation answer p)
    no_3 (looked_up row generation answer p same) = came_not_3 item (λ is. omega (arith, look_8 row generation 3 is)) (looking st pass row generation answer p)
    no_3 (listed out answer out' p same) = go (telling st pass out answer out' p) where
      go : {answer : Result ℕ Refusal} → Telling st out out' answer → listings.says answer ≢ refused 3
      go (tells_all is) = λ is. cc
      go (too_short is) = λ is. cc
    no_3 (cleared answer p) = go (clearing st st' pass answer p) where
      go : {answer : Result (Unit {0}) Refusal} → Clearing st st' answer → replies.says answer ≢ refused 3
      go (clears_it left) = λ is. cc

    pub refusal_keeps : (did : Did st st') (n : ℕ) → answered did ≡ refused n → st' ≡ st
    unfolding grants replies listings says
    refusal_keeps (allocated w height answer p) n = came_keeps item n (allocating st st' pass w height answer p)
    refusal_keeps (released row generation answer p) n = came_keeps (λ t. done) n (releasing st st' pass row generation answer p)
    refusal_keeps (looked_up row generation answer p same) n = λ is. same
    refusal_keeps (listed out answer out' p same) n = λ is. same
    refusal_keeps (cleared answer p) n = go (clearing st st' pass answer p) where
      go : {answer : Result (Unit {0}) Refusal} → Clearing st st' answer → replies.says answer ≡ refused n → st' ≡ st
      go (clears_it left) = λ is. cc
