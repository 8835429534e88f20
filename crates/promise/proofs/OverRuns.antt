-- Demand 3, from one call to any run of them. Assumes nothing.
use Rattle.std.specs.Prelude.{◌+◌, ◌*◌, ◌<◌, ◌≡◌, ◌∷◌, ◌++◌, Ok, Err}
use Rattle.numbers.specs.Library.{ℕ, refl, sym, ap, ◌∙◌, List, [], arith, eq-eqb, ne_eqb}
use Rattle.numbers.specs.Prelude.{space_left}
use Rattle.numbers.specs.declared.limits.Limits.{Limits}
use Rattle.rows.specs.declared.live.Live.{Live}
use Rattle.rows.specs.State.{State}
use Rattle.chains.specs.Prelude.{Each}
use Rattle.chains.proofs.Prelude.{each_map}
use Rattle.rules.specs.Prelude.{free_space, size_x, size_y, WellFormed}
use Rattle.laws.specs.Lives.{lives, OneMore, Pairs, Inside, area, areas}
use Rattle.laws.proofs.Stored.Reading.{formed}
use Rattle.laws.proofs.Shape.Flat.{Across}
use Rattle.laws.proofs.Shape.Rectangles.{one_more-area}
use Rattle.laws.proofs.Shape.Kept.{lives_inside, list_rises, list_each, list_apart, list_areas, occupied_lives}
use Rattle.bridge.proofs.Calls as calls
use Rattle.promise.specs.Run.{Did, allocated, released, looked_up, listed, cleared, Run, start, then}
use Rattle.promise.specs.Facts.{Pass, atlas, room, live, LiesIn, SameId, NoneMoved, Changes, area_of, Count, counted_after, count_of}
use Rattle.promise.specs.Demand3.{Demand3}
use Rattle.laws.proofs.Shape.ByRow.{Rising, pairs_across, each_there}
use Rattle.promise.proofs.OneStep.{pass_next, limits_next, changes, covers, judged_first, no_place_exactly, too_few_exactly, lists_live, no_3, refusal_keeps}

-- ---- a state that passes

module _ (st : State) (pass : Pass st) where
  well_formed : WellFormed (room st) (atlas st)
  well_formed = formed st.header st.shelves st.items pass

  rises : Pairs Rising (live st)
  rises = list_rises (room st) (atlas st) well_formed

  lies_in : (v : Live) → Inside (atlas st).limits v → LiesIn st v
  unfolding size_x size_y
  lies_in v inside = record {
    some_pixel = (omega arith, inside.some_x, omega arith, inside.some_y);
    each_pixel = λ x y has. (omega (arith, inside.within_x, has.1), omega (arith, inside.within_y, has.3));
  }

  all_inside : Each (LiesIn st) (live st)
  all_inside = list_each (room st) (atlas st) well_formed (LiesIn st) (each_map (Inside (atlas st).limits) (LiesIn st) lies_in (lives (atlas st)) (lives_inside (room st) (atlas st) well_formed))

  occupied_is_live : st.header.occupied ≡ areas (live st)
  occupied_is_live = sym (calls.occupied_is st.header st.shelves st.items pass) ∙ occupied_lives (atlas st) ∙ sym (list_areas (room st) (atlas st) well_formed)

  space_left_lem : free_space (atlas st) + st.header.occupied ≡ st.header.limits.width * st.header.limits.height
  unfolding space_left
  space_left_lem = omega (arith, calls.free_is st.header st.shelves st.items pass, calls.occupied_fits st.header st.shelves st.items pass)

  -- a row has one live rectangle
  one_of_an_id : Across (λ u v. SameId u v → u ≡ v) (live st) (live st)
  one_of_an_id = pairs_across Rising _ (λ u _. refl) (λ u v less. ((λ id. absurd (omega (arith, less, id.0))), (λ id. absurd (omega (arith, less, id.0))))) (live st) rises

-- ---- a call

-- what holds of all of the longer list holds of all of the shorter
shorter : (P : Live → Type 0) (v : Live) (xs ys : List Live) → OneMore v xs ys → Each P ys → Each P xs
shorter P v xs ys o e = rw o.less (each_there P o.before v o.after (rw o.more at e)).1

module _ (st st' : State) (pass : Pass st) (pass' : Pass st') where
  abbrev OneOfAnId : Live → Live → Type 0
  OneOfAnId u v = SameId u v → u ≡ v

  kept_ids : live st' ≡ live st → NoneMoved st st'
  kept_ids same = rw same (one_of_an_id st pass)

  none_moved : (did : Did st st') → Changes did → NoneMoved st st'
  none_moved (allocated w height (Ok v) p) one = shorter (λ u. Each (OneOfAnId u) (live st')) v (live st) (live st') one (one_of_an_id st' pass')
  none_moved (allocated w height (Err e) p) same = kept_ids same
  none_moved (released row generation (Ok done) p) taken =
      each_map (λ u. Each (OneOfAnId u) (live st)) (λ u. Each (OneOfAnId u) (live st')) (λ u. shorter (OneOfAnId u) taken.taken (live st') (live st) taken.one_less) (live st) (one_of_an_id st pass)
  none_moved (released row generation (Err e) p) same = kept_ids same
  none_moved (looked_up row generation answer p eq) same = kept_ids same
  none_moved (listed out answer out' p eq) same = kept_ids same
  none_moved (cleared answer p) none = rw none.1 (each_any (live st)) where
    each_any : (ls : List Live) → Each (λ u. Unit {0}) ls
    each_any [] = tt
    each_any (u ∷ us) = (tt, each_any us)

  -- the area that a release counts is that of the one it takes
  named_area : (row generation : ℕ) (v : Live) (before after : List Live) → v.row ≡ row → v.generation ≡ generation → Pairs Rising (before ++ (v ∷ after))
      → area_of row generation (before ++ (v ∷ after)) ≡ area v
  named_area row generation v [] after r g p = rw (eq-eqb row v.row (sym r), eq-eqb generation v.generation (sym g))
  named_area row generation v (u ∷ before) after r g p =
      let less : u.row < v.row = (each_there (Rising u) before v after p.0).0 in
      rw (ne_eqb row u.row (λ e. omega arith)) (named_area row generation v before after r g p.1)

  -- what was counted, with this call
  abbrev Counted : State → Count → Type 0
  Counted s c = s.header.occupied + c.released ≡ c.total + c.granted

  count_on : (c : Count) (did : Did st st') → Changes did → Counted st c → Counted st' (counted_after c did)
  count_on c (allocated w height (Ok v) p) one counted =
      omega (arith, one_more-area v (live st) (live st') one, occupied_is_live st pass, occupied_is_live st' pass')
  count_on c (allocated w height (Err e) p) same counted = omega (arith, ap areas same, occupied_is_live st pass, occupied_is_live st' pass')
  count_on c (released row generation (Ok done) p) taken counted =
      let one : OneMore taken.taken (live st') (live st) = taken.one_less in
      let named : area_of row generation (live st) ≡ area taken.taken =
      rw one.more (named_area row generation taken.taken one.before one.after taken.its_row taken.its_generation (rw one.more at (rises st pass))) in
      omega (arith, one_more-area taken.taken (live st') (live st) one, occupied_is_live st pass, occupied_is_live st' pass')
  count_on c (released row generation (Err e) p) same counted = omega (arith, ap areas same, occupied_is_live st pass, occupied_is_live st' pass')
  count_on c (looked_up row generation answer p eq) same counted = omega (arith, ap areas same, occupied_is_live st pass, occupied_is_live st' pass')
  count_on c (listed out answer out' p eq) same counted = omega (arith, ap areas same, occupied_is_live st pass, occupied_is_live st' pass')
  count_on c (cleared (Ok done) p) none counted = omega (arith, ap areas none.1, occupied_is_live st' pass')
  count_on c (cleared (Err e) p) none counted = cc

-- ---- a run

module _ (st : State) (pass : Pass st) where
  pass_now : {now : State} → Run st now → Pass now
  pass_now start = pass
  pass_now (then {st' = before} {st'' = now} run did) = pass_next before now (pass_now run) did

  limits_now : {now : State} → Run st now → now.header.limits ≡ st.header.limits
  limits_now start = refl
  limits_now (then {st' = before} {st'' = now} run did) = limits_next before now (pass_now run) did ∙ limits_now run

  count_now : {now : State} (run : Run st now) → now.header.occupied + (count_of run).released ≡ (count_of run).total + (count_of run).granted
  count_now start = refl
  count_now (then {st' = before} {st'' = now} run did) =
      count_on before now (pass_now run) (pass_next before now (pass_now run) did) (count_of run) did (changes before now (pass_now run) did) (count_now run)

  pub demand_3 : Demand3 st
  demand_3 = record {
    pass_after_each_call = λ now run. pass_now run;
    inside_the_atlas = λ now run. all_inside now (pass_now run);
    no_two_share_a_pixel = λ now run. list_apart (room now) (atlas now) (well_formed now (pass_now run));
    told_by_rising_row = λ now run. rises now (pass_now run);
    told_by-list = λ now next run did. lists_live now next (pass_now run) did;
    no_call_moves_one = λ now next run did. none_moved now next (pass_now run) (pass_next now next (pass_now run) did) did (changes now next (pass_now run) did);
    one_granted_or_released = λ now next run did. changes now next (pass_now run) did;
    grant_covers_the_sides = λ now next run did. covers now next (pass_now run) did;
    checks_4_and_5_first = λ now next run did. judged_first now next (pass_now run) did;
    no_place_exactly = λ now next run did. no_place_exactly now next (pass_now run) did;
    too_few_rows_exactly = λ now next run did. too_few_exactly now next (pass_now run) did;
    no_call_answers_3 = λ now next run did. no_3 now next (pass_now run) did;
    refusal_changes_nothing = λ now next run did n. refusal_keeps now next (pass_now run) did n;
    occupied_space = λ now run. count_now run;
    occupied_is_live = λ now run. occupied_is_live now (pass_now run);
    free_space_lem = λ now run. space_left_lem now (pass_now run) ∙ ap (λ (l : Limits). l.width * l.height) (limits_now run);
  }
