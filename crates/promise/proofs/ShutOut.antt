-- The wrong programs that document 01 names under "What a promise has to say here", each shut out by the fields of demand 3. Assumes nothing.
use Rattle.std.specs.Prelude.{◌+◌, ◌-◌, ◌≤◌, ◌<◌, ◌≡◌, ◌≢◌, ◌∷◌, ◌++◌, Ok, Err}
use Rattle.numbers.specs.Library.{ℕ, mul-le-mul, refl, ap, subst, List, [], ℤ, pos, arith}
use Rattle.numbers.specs.Prelude.{columns, asked}
use Rattle.numbers.specs.declared.{limits.Limits.Limits, request.Asked.Asked}
use Rattle.numbers.specs.declared.refusal.Refusal.TheVariants as refusal
use Rattle.rows.specs.declared.live.Live.{Live}
use Rattle.rows.specs.State.{State}
use Rattle.chains.specs.Prelude.{Each}
use Rattle.rules.specs.Prelude.{Atlas, atlas_in, fresh_shelf, fresh_shelves, fresh}
use Rattle.laws.specs.Places.{NoPlace}
use Rattle.laws.specs.Lives.{OneMore, HasPixel, NoPixelShared, Pairs, area}
use Rattle.laws.proofs.Shape.Rectangles.{one_more-area}
use Rattle.laws.proofs.Shape.ByRow.{each_there}
use Rattle.promises.specs.Prelude.{Allocates, Releases}
use Rattle.promise.specs.Run.{Did, allocated, released, Run, start, then}
use Rattle.promise.specs.Facts.{atlas, live, LiesIn, TakesOne}
use Rattle.promise.specs.Demand3.{Demand3}

-- one more, and no two share a pixel: the one shares none with any other
shares_none : (v : Live) (before after : List Live) → Pairs NoPixelShared (before ++ (v ∷ after)) → Each (λ u. NoPixelShared u v) (before ++ after)
shares_none v [] after p = each_turned after p.0 where
  each_turned : (ls : List Live) → Each (NoPixelShared v) ls → Each (λ u. NoPixelShared u v) ls
  each_turned [] e = tt
  each_turned (u ∷ ls) e = ((λ x y a b. e.0 x y b a), each_turned ls e.1)
shares_none v (u ∷ before) after p = ((each_there (NoPixelShared u) before v after p.0).0, shares_none v before after p.1)

-- a rectangle with a pixel has an area of at least 1
some_area : (v : Live) → HasPixel v v.x0 v.y0 → 1 ≤ area v
some_area v has =
    let x : 1 ≤ v.x1 - v.x0 = omega (arith, has.1) in
    let y : 1 ≤ v.y1 - v.y0 = omega (arith, has.3) in
    mul-le-mul x y

module _ (st : State) (demand : Demand3 st) (now next : State) (run : Run st now) where
  -- ---- "one rectangle for every request", and "a run that places the first request and then only repeats an answer"

  -- what is granted shares no pixel with anything live
  pub grant_apart : (w height : ℤ) (v : Live) (p : Allocates now.header now.shelves now.items w height (record { answer = Ok v; header = next.header }) next.shelves next.items)
      → Each (λ u. NoPixelShared u v) (live now)
  grant_apart w height v p =
      let did : Did now next = allocated w height (Ok v) p in
      let one : OneMore v (live now) (live next) = demand.one_granted_or_released now next run did in
      rw one.less (shares_none v one.before one.after (rw one.more at (demand.no_two_share_a_pixel next (then run did))))

  -- ---- "a release that changes nothing", and "a made-up occupied total"

  pub grant_grows : (w height : ℤ) (v : Live) (p : Allocates now.header now.shelves now.items w height (record { answer = Ok v; header = next.header }) next.shelves next.items)
      → next.header.occupied ≡ now.header.occupied + area v
  grant_grows w height v p =
      let did : Did now next = allocated w height (Ok v) p in
      let one : OneMore v (live now) (live next) = demand.one_granted_or_released now next run did in
      omega (arith, one_more-area v (live now) (live next) one, demand.occupied_is_live now run, demand.occupied_is_live next (then run did))

  -- occupied falls
  pub release_falls : (row generation : ℕ) (p : Releases now.header now.shelves now.items row generation (record { answer = Ok tt; header = next.header }) next.shelves next.items)
      → next.header.occupied < now.header.occupied
  release_falls row generation p =
      let did : Did now next = released row generation (Ok tt) p in
      let taken : TakesOne row generation (live now) (live next) = demand.one_granted_or_released now next run did in
      let one : OneMore taken.taken (live next) (live now) = taken.one_less in
      let lies : LiesIn now taken.taken = (each_there (LiesIn now) one.before taken.taken one.after (rw one.more at (demand.inside_the_atlas now run))).0 in
      omega (arith, some_area taken.taken lies.some_pixel, one_more-area taken.taken (live next) (live now) one, demand.occupied_is_live now run, demand.occupied_is_live next (then run did))

-- two grants in a row are two rectangles that share no pixel
pub no_grant_twice : (st : State) (demand : Demand3 st) (now next last : State) (run : Run st now) (w height w' height' : ℤ) (v u : Live)
    (p : Allocates now.header now.shelves now.items w height (record { answer = Ok v; header = next.header }) next.shelves next.items)
    (p' : Allocates next.header next.shelves next.items w' height' (record { answer = Ok u; header = last.header }) last.shelves last.items)
    → NoPixelShared v u × (u ≢ v)
no_grant_twice st demand now next last run w height w' height' v u p p' =
    let did : Did now next = allocated w height (Ok v) p in
    let one : OneMore v (live now) (live next) = demand.one_granted_or_released now next run did in
    let lies : LiesIn next v = (each_there (LiesIn next) one.before v one.after (rw one.more at (demand.inside_the_atlas next (then run did)))).0 in
    let apart : NoPixelShared v u = (each_there (λ t. NoPixelShared t u) one.before v one.after (rw one.more at (grant_apart st demand next last (then run did) w' height' u p'))).0 in
    (apart, λ same. apart v.x0 v.y0 lies.some_pixel (rw same lies.some_pixel))

-- ---- "refusing all requests with 6"

-- an atlas of 100 x 100, and what 10 x 10 asks of it
abbrev small : Limits
small = record { width = 100; height = 100; align_width = 1; align_height = 1; vertical = 0; shelf_width = 100 }

abbrev ten : Asked
ten = record { width = 10; depth = 16; aligned = 10 }

asks_ten : asked small (pos 10) (pos 10) ≡ Ok ten
unfolding asked
asks_ten = refl

-- a fresh one has a place for it, so that 6 is no answer
pub not_always_6 : (st : State) (demand : Demand3 st) (next : State) → atlas st ≡ fresh small
    → Allocates st.header st.shelves st.items (pos 10) (pos 10) (record { answer = Err refusal.NoPlace; header = next.header }) next.shelves next.items → ⊥
unfolding atlas_in fresh fresh_shelves fresh_shelf columns
not_always_6 st demand next is p =
    let limits : st.header.limits ≡ small = ap (λ (a : Atlas). a.limits) is in
    let none : NoPlace ten (fresh small).shelves =
    subst (λ (a : Atlas). NoPlace ten a.shelves) is ((demand.no_place_exactly st next start (allocated (pos 10) (pos 10) (Err refusal.NoPlace) p) ten (rw limits asks_ten)).0 refl) in
    omega (arith, (none.0 (omega arith)).0 refl)
