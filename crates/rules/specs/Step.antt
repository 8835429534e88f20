-- One step for every call: what it comes to with an atlas, or with none, and what it tells in document 01's numbers; and runs of calls. These are
-- what the public calls and the script program promise. Assumes nothing.
use Rattle.std.specs.Prelude.{◌∷◌}
use Rattle.numbers.specs.Library.{ℕ, zero, suc, Bool, true, false, List, [], Option, none, some, ℤ, length}
use Rattle.numbers.specs.Prelude.{pick, columns}
use Rattle.rows.specs.declared.live.Live.{Live}
use Rattle.rows.specs.Live.{live_numbers}
use Rattle.rules.specs.Atlas.{Atlas, Room, occupied}
use Rattle.rules.specs.Outcome.{Outcome, refused, gives, mapped, Given}
use Rattle.rules.specs.Calls.{make, allocate, release, look_up, list_in, free_space, size_x, size_y, all_empty, clear}

-- The calls with what they are asked: those of a host, and what else a line of the script can be.
pub data Call : Type 0 where
  Create : ℤ → ℤ → ℤ → ℤ → ℤ → ℤ → Call
  Allocate : ℤ → ℤ → Call
  Release : ℕ → ℕ → Call
  LookUp : ℕ → ℕ → Call
  -- into a lent list of so many records
  ListIn : ℕ → Call
  Clear : Call
  Occupied : Call
  FreeSpace : Call
  Size : Call
  IsEmpty : Call
  -- the script's "s": occupied, then free
  Totals : Call
  -- an id outside 0 to 65535, which names no live item
  NoSuchId : Call
  -- a line that is not readable
  Unreadable : Call

-- What a call tells where it is not refused.
pub data Value : Type 0 where
  columns_made : ℕ → Value
  item : Live → Value
  done : Value
  items : List Live → Value
  -- of a list that was written to lent records
  count : ℕ → Value
  area : ℕ → Value
  space : ℕ → ℕ → Value
  sides : ℕ → ℕ → Value
  vacant : Bool → Value

-- ---- a step

-- a value told, and the atlas as it was
unfoldable pub tells : Atlas → Value → Given Value
tells a v = record { told = v; atlas = a }

unfoldable pub made_of : Atlas → Given Value
unfolding columns tells
made_of a = tells a (columns_made (columns a.limits))

-- with an atlas
unfoldable pub step_in : Room → Atlas → Call → Outcome (Given Value)
unfolding mapped tells made_of make allocate release look_up list_in free_space size_x size_y all_empty clear occupied
step_in room a (Create w h alignWidth alignHeight vertical columns-asked) = mapped made_of (make room w h alignWidth alignHeight vertical columns-asked)
step_in room a (Allocate w h) = mapped (λ (g : Given Live). tells g.atlas (item g.told)) (allocate room a w h)
step_in room a (Release row generation) = mapped (λ (next : Atlas). tells next done) (release a row generation)
step_in room a (LookUp row generation) = mapped (λ (l : Live). tells a (item l)) (look_up a row generation)
step_in room a (ListIn records) = mapped (λ (ls : List Live). tells a (items ls)) (list_in records a)
step_in room a Clear = gives (tells (clear a) done)
step_in room a Occupied = gives (tells a (area (occupied a.shelves)))
step_in room a FreeSpace = gives (tells a (area (free_space a)))
step_in room a Size = gives (tells a (sides (size_x a) (size_y a)))
step_in room a IsEmpty = gives (tells a (vacant (all_empty a.shelves)))
step_in room a Totals = gives (tells a (space (occupied a.shelves) (free_space a)))
step_in room a NoSuchId = refused 8
step_in room a Unreadable = refused 11

-- "Before the first good n, all but n and bad lines answer no 3."
unfoldable pub step_without : Room → Call → Outcome (Given Value)
unfolding mapped made_of make
step_without room (Create w h alignWidth alignHeight vertical columns-asked) = mapped made_of (make room w h alignWidth alignHeight vertical columns-asked)
step_without room (Allocate w h) = refused 3
step_without room (Release row generation) = refused 3
step_without room (LookUp row generation) = refused 3
step_without room (ListIn records) = refused 3
step_without room Clear = refused 3
step_without room Occupied = refused 3
step_without room FreeSpace = refused 3
step_without room Size = refused 3
step_without room IsEmpty = refused 3
step_without room Totals = refused 3
step_without room NoSuchId = refused 3
step_without room Unreadable = refused 11

unfoldable pub step : Room → Option Atlas → Call → Outcome (Given Value)
unfolding step_in step_without
step room none call = step_without room call
step room (some a) call = step_in room a call

-- ---- what is told, in document 01's numbers: "0 is success", "a refusal returns zeros besides its number"

-- of a list the count is told; its records go to the lent list
unfoldable pub value_numbers : Value → List ℕ
unfolding live_numbers
value_numbers (columns_made n) = n ∷ []
value_numbers (item l) = live_numbers l
value_numbers done = []
value_numbers (items ls) = length ls ∷ []
value_numbers (count n) = n ∷ []
value_numbers (area n) = n ∷ []
value_numbers (space occupied free) = occupied ∷ free ∷ []
value_numbers (sides w h) = w ∷ h ∷ []
value_numbers (vacant b) = pick b 1 0 ∷ []

-- how many numbers a call tells besides the first
unfoldable pub told_by : Call → ℕ
told_by (Create w h alignWidth alignHeight vertical columns-asked) = 1
told_by (Allocate w h) = 6
told_by (Release row generation) = 0
told_by (LookUp row generation) = 6
told_by (ListIn records) = 1
told_by Clear = 0
told_by Occupied = 1
told_by FreeSpace = 1
told_by Size = 2
told_by IsEmpty = 1
told_by Totals = 2
told_by NoSuchId = 6
told_by Unreadable = 0

unfoldable pub zeros : ℕ → List ℕ
zeros zero = []
zeros (suc n) = 0 ∷ zeros n

unfoldable pub answer_numbers : Call → Outcome Value → List ℕ
unfolding told_by zeros value_numbers
answer_numbers call (refused n) = n ∷ zeros (told_by call)
answer_numbers call (gives v) = 0 ∷ value_numbers v

-- ---- a run

abbrev pub told_of : Outcome (Given Value) → Outcome Value
told_of o = mapped (λ (g : Given Value). g.told) o

unfoldable pub is_create : Call → Bool
is_create (Create w h alignWidth alignHeight vertical columns-asked) = true
is_create (Allocate w h) = false
is_create (Release row generation) = false
is_create (LookUp row generation) = false
is_create (ListIn records) = false
is_create Clear = false
is_create Occupied = false
is_create FreeSpace = false
is_create Size = false
is_create IsEmpty = false
is_create Totals = false
is_create NoSuchId = false
is_create Unreadable = false

-- The atlas that stands after a call: a refusal changes nothing, but a refused create leaves none.
unfoldable pub atlas_after : Option Atlas → Call → Outcome (Given Value) → Option Atlas
unfolding is_create
atlas_after a call (refused n) = pick (is_create call) none a
atlas_after a call (gives g) = some g.atlas

-- the answers of a run
unfoldable pub run : Room → Option Atlas → List Call → List (Outcome Value)
unfolding step atlas_after mapped
run room a [] = []
run room a (call ∷ rest) = told_of (step room a call) ∷ run room (atlas_after a call (step room a call)) rest
