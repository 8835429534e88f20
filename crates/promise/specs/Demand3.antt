-- Demand 3 as one record, over runs of the public calls' own promises.
--
-- Take any header and tables that pass the audit, and any run of allocate, release, look-up, list and clear, each with any arguments, with nobody else
-- writing to them. Then, at every state that the run comes to: they pass; the live rectangles, as `list` tells them, lie inside the atlas, and no two
-- share a pixel. For every call of it: what is live before and after under one id is one rectangle; a grant adds exactly the one it tells, a release takes
-- exactly the one it names, clear is never refused and leaves none, and anything else changes none; a grant covers the sides asked for; a request that passes checks 4 and 5
-- gets 6 exactly when no shelf at least as deep as the rounded request has a free stretch at least as wide as the aligned one, and 7 exactly when the
-- chosen splits need more rows than are left; no call answers 3, and a refusal changes nothing. And over the run: occupied at its end, with the areas
-- released, is the total at its start with the areas granted, counted since the last clear, which starts from 0; free space is W x H less that.
--
-- Pixels, sides and sizes are the caller's x and y, with vertical shelves or without. A fact more is a field more. Assumes nothing.
use Rattle.std.specs.Prelude.{◌+◌, ◌*◌, ◌<◌, ◌≡◌, ◌≢◌}
use Rattle.numbers.specs.Library.{ℕ}
use Rattle.rows.specs.declared.live.Live.{Live}
use Rattle.rows.specs.State.{State}
use Rattle.chains.specs.Prelude.{Each}
use Rattle.rules.specs.Prelude.{refused, free_space}
use Rattle.laws.specs.Lives.{NoPixelShared, Pairs, areas}
use Rattle.promise.specs.Run.{Did, Run, answered}
use Rattle.promise.specs.Facts.{Pass, atlas, live, LiesIn, NoneMoved, Changes, Covers, JudgedFirst, NoPlaceExactly, TooFewExactly, ListsLive, count_of}

-- `st` is where the run starts, and `now` a state that it comes to, before its next call or at its end; `next` is what that call leaves
pub record Demand3 (st : State) : Type 0 where
  -- "They pass after each call."
  pub pass_after_each_call : (now : State) → Run st now → Pass now
  -- "Live rectangles lie inside the atlas"
  pub inside_the_atlas : (now : State) → Run st now → Each (LiesIn now) (live now)
  -- "and no two share a pixel;" they are told by rising row
  pub no_two_share_a_pixel : (now : State) → Run st now → Pairs NoPixelShared (live now)
  pub told_by_rising_row : (now : State) → Run st now → Pairs (λ (u v : Live). u.row < v.row) (live now)
  pub told_by-list : (now next : State) → Run st now → (did : Did now next) → ListsLive did
  -- "no call moves one;"
  pub no_call_moves_one : (now next : State) → Run st now → Did now next → NoneMoved now next
  pub one_granted_or_released : (now next : State) → Run st now → (did : Did now next) → Changes did
  -- "a grant covers the sides asked for."
  pub grant_covers_the_sides : (now next : State) → Run st now → (did : Did now next) → Covers did
  -- "A request that passes checks 4 and 5 gets "no place" exactly when no shelf at least as deep as the rounded request has a wide enough free stretch."
  pub checks_4_and_5_first : (now next : State) → Run st now → (did : Did now next) → JudgedFirst did
  pub no_place_exactly : (now next : State) → Run st now → (did : Did now next) → NoPlaceExactly did
  pub too_few_rows_exactly : (now next : State) → Run st now → (did : Did now next) → TooFewExactly did
  -- of every refusal
  pub no_call_answers_3 : (now next : State) → Run st now → (did : Did now next) → answered did ≢ refused 3
  pub refusal_changes_nothing : (now next : State) → Run st now → (did : Did now next) → (n : ℕ) → answered did ≡ refused n → next ≡ now
  -- "Occupied space is the starting total plus areas granted, less areas released, since the last clear, which sets it to 0."
  pub occupied_space : (now : State) (run : Run st now) → now.header.occupied + (count_of run).released ≡ (count_of run).total + (count_of run).granted
  pub occupied_is_live : (now : State) → Run st now → now.header.occupied ≡ areas (live now)
  pub free_space_lem : (now : State) → Run st now → free_space (atlas now) + now.header.occupied ≡ st.header.limits.width * st.header.limits.height
