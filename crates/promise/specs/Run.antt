-- Runs of the public calls on a header and two tables to which nobody else writes: each call keeps its promise, and leaves what the next one finds.
-- Assumes nothing.
use Rattle.std.specs.Prelude.{◌≡◌, Result}
use Rattle.numbers.specs.Library.{ℕ, List, ℤ}
use Rattle.numbers.specs.declared.refusal.Refusal.{Refusal}
use Rattle.rows.specs.declared.live.Live.{Live}
use Rattle.rows.specs.State.{State}
use Rattle.rules.specs.Prelude.{Outcome, Value}
use Rattle.promises.specs.Prelude.{grants, replies, listings, Allocates, Releases, Clears, LooksUp, Lists}

-- One call, whatever it is asked and whatever it answers. Look-up and list are lent the tables to read, and leave them as they are; a list is written
-- to `out`, which is `out'` after the call. A call more is a constructor more.
pub data Did (st st' : State) : Type 0 where
  allocated : (w height : ℤ) (answer : Result Live Refusal) → Allocates st.header st.shelves st.items w height (record { answer = answer; header = st'.header }) st'.shelves st'.items
      → Did st st'
  released : (row generation : ℕ) (answer : Result (Unit {0}) Refusal) → Releases st.header st.shelves st.items row generation (record { answer = answer; header = st'.header }) st'.shelves st'.items
      → Did st st'
  looked_up : (row generation : ℕ) (answer : Result Live Refusal) → LooksUp st.header st.shelves st.items row generation answer → st' ≡ st → Did st st'
  listed : (out : List ℕ) (answer : Result ℕ Refusal) (out' : List ℕ) → Lists st.header st.shelves st.items out answer out' → st' ≡ st → Did st st'
  cleared : (answer : Result (Unit {0}) Refusal) → Clears st.header st.shelves st.items (record { answer = answer; header = st'.header }) st'.shelves st'.items → Did st st'

-- any number of calls, one after the other
pub data Run (st : State) : State → Type 0 where
  start : Run st st
  then : {st' st'' : State} → Run st st' → Did st' st'' → Run st st''

-- what a call answers
abbrev pub answered : {st st' : State} → Did st st' → Outcome Value
answered (allocated w height answer p) = grants.says answer
answered (released row generation answer p) = replies.says answer
answered (looked_up row generation answer p same) = grants.says answer
answered (listed out answer out' p same) = listings.says answer
answered (cleared answer p) = replies.says answer
