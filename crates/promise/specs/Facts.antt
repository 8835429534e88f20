-- What demand 3 says of a state, of a step and of a run, in the caller's terms: live rectangles as `list` tells them, pixels in x and y, and raw sides.
-- Assumes nothing.
use Rattle.std.specs.Prelude.{◌+◌, ◌<◌, ◌≡◌, ◌&&◌, ◌∷◌, Ok, Err}
use Rattle.numbers.specs.Library.{ℕ, List, [], eqb, length}
use Rattle.numbers.specs.Prelude.{pick, asked}
use Rattle.numbers.specs.declared.request.Asked.{Asked}
use Rattle.numbers.specs.declared.refusal.Refusal.{Refusal}
use Rattle.numbers.specs.declared.refusal.Refusal.TheVariants as refusal
use Rattle.rows.specs.declared.live.Live.{Live}
use Rattle.rows.specs.State.{State}
use Rattle.chains.specs.Prelude.{◌iff◌, Each}
use Rattle.rules.specs.Prelude.{Atlas, Room, room_in, atlas_in, Passes, list, size_x, size_y}
use Rattle.laws.specs.Lives.{OneMore, HasPixel, Covered, area}
use Rattle.laws.specs.Places.{NoPlace, TooFew}
use Rattle.promises.specs.Prelude.{written}
use Rattle.promise.specs.Run.{Did, allocated, released, looked_up, listed, cleared, Run, start, then}

-- ---- of a state

abbrev pub Pass : State → Type 0
Pass st = Passes st.header st.shelves st.items

abbrev pub atlas : State → Atlas
atlas st = atlas_in st.header st.shelves st.items

abbrev pub room : State → Room
room st = room_in st.shelves st.items

-- the live rectangles with their ids, as `list` tells them: by rising row
abbrev pub live : State → List Live
live st = list (atlas st)

-- a rectangle has a pixel, and each of its pixels is one of the atlas, as `size` tells its sides
pub record LiesIn (st : State) (v : Live) : Type 0 where
  pub some_pixel : HasPixel v v.x0 v.y0
  pub each_pixel : (x y : ℕ) → HasPixel v x y → (x < size_x (atlas st)) × (y < size_y (atlas st))

-- ---- of a step

abbrev pub SameId : Live → Live → Type 0
SameId u v = (u.row ≡ v.row) × (u.generation ≡ v.generation)

-- what is live before and after under one id is one rectangle
abbrev pub NoneMoved : State → State → Type 0
NoneMoved st st' = Each (λ u. Each (λ v. SameId u v → u ≡ v) (live st')) (live st)

-- one live rectangle is gone, the one of this row and generation
pub record TakesOne (row generation : ℕ) (before after : List Live) : Type 0 where
  pub taken : Live
  pub its_row : taken.row ≡ row
  pub its_generation : taken.generation ≡ generation
  pub one_less : OneMore taken after before

-- A grant adds exactly the one it tells, a release takes exactly the one it names, clear is never refused and leaves none, anything else changes none.
abbrev pub Changes : {st st' : State} → Did st st' → Type 0
Changes {st} {st'} (allocated w height (Ok v) p) = OneMore v (live st) (live st')
Changes {st} {st'} (allocated w height (Err e) p) = live st' ≡ live st
Changes {st} {st'} (released row generation (Ok done) p) = TakesOne row generation (live st) (live st')
Changes {st} {st'} (released row generation (Err e) p) = live st' ≡ live st
Changes {st} {st'} (looked_up row generation answer p same) = live st' ≡ live st
Changes {st} {st'} (listed out answer out' p same) = live st' ≡ live st
Changes {st} {st'} (cleared answer p) = (answer ≡ Ok tt) × (live st' ≡ [])

abbrev pub Covers : {st st' : State} → Did st st' → Type 0
Covers (allocated w height (Ok v) p) = Covered w height v
Covers (allocated w height (Err e) p) = Unit {0}
Covers (released row generation answer p) = Unit {0}
Covers (looked_up row generation answer p same) = Unit {0}
Covers (listed out answer out' p same) = Unit {0}
Covers (cleared answer p) = Unit {0}

-- A request that fails check 4 or 5 gets that answer.
abbrev pub JudgedFirst : {st st' : State} → Did st st' → Type 0
JudgedFirst {st} (allocated w height answer p) = (e : Refusal) → asked st.header.limits w height ≡ Err e → answer ≡ Err e
JudgedFirst (released row generation answer p) = Unit {0}
JudgedFirst (looked_up row generation answer p same) = Unit {0}
JudgedFirst (listed out answer out' p same) = Unit {0}
JudgedFirst (cleared answer p) = Unit {0}

-- A request that passes checks 4 and 5 asks for `q`: its width aligned, its depth aligned and rounded. It gets this refusal exactly where `When` holds.
abbrev pub RefusedExactly : Refusal → (State → Asked → Type 0) → {st st' : State} → Did st st' → Type 0
RefusedExactly e When {st} (allocated w height answer p) = (q : Asked) → asked st.header.limits w height ≡ Ok q → (answer ≡ Err e) iff When st q
RefusedExactly e When (released row generation answer p) = Unit {0}
RefusedExactly e When (looked_up row generation answer p same) = Unit {0}
RefusedExactly e When (listed out answer out' p same) = Unit {0}
RefusedExactly e When (cleared answer p) = Unit {0}

abbrev pub NoPlaceExactly : {st st' : State} → Did st st' → Type 0
NoPlaceExactly did = RefusedExactly refusal.NoPlace (λ st q. NoPlace q (atlas st).shelves) did

abbrev pub TooFewExactly : {st st' : State} → Did st st' → Type 0
TooFewExactly did = RefusedExactly refusal.TooFewRows (λ st q. TooFew (room st) (atlas st) q) did

-- the live rectangles are what is written to the lent list, and their count is what is told
abbrev pub ListsLive : {st st' : State} → Did st st' → Type 0
ListsLive {st} (listed out (Ok n) out' p same) = (n ≡ length (live st)) × (out' ≡ written 0 (live st) out)
ListsLive (listed out (Err e) out' p same) = out' ≡ out
ListsLive (allocated w height answer p) = Unit {0}
ListsLive (released row generation answer p) = Unit {0}
ListsLive (looked_up row generation answer p same) = Unit {0}
ListsLive (cleared answer p) = Unit {0}

-- ---- over a run

-- the area of the rectangle that a row and a generation name
abbrev pub area_of : ℕ → ℕ → List Live → ℕ
area_of row generation [] = 0
area_of row generation (v ∷ rest) = pick (eqb row v.row && eqb generation v.generation) (area v) (area_of row generation rest)

-- Areas counted since the start of a run or its last clear, and the total that stood there.
pub record Count : Type 0 where
  pub total : ℕ
  pub granted : ℕ
  pub released : ℕ

abbrev pub counted_after : {st st' : State} → Count → Did st st' → Count
counted_after c (allocated w height (Ok v) p) = record { total = c.total; granted = c.granted + area v; released = c.released }
counted_after c (allocated w height (Err e) p) = c
counted_after {st} c (released row generation (Ok done) p) = record { total = c.total; granted = c.granted; released = c.released + area_of row generation (live st) }
counted_after c (released row generation (Err e) p) = c
counted_after c (looked_up row generation answer p same) = c
counted_after c (listed out answer out' p same) = c
counted_after c (cleared (Ok done) p) = record { total = 0; granted = 0; released = 0 }
counted_after c (cleared (Err e) p) = c

abbrev pub count_of : {st st' : State} → Run st st' → Count
count_of {st} start = record { total = st.header.occupied; granted = 0; released = 0 }
count_of (then run did) = counted_after (count_of run) did
