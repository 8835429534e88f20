-- What each public call promises, for every header, every two tables and whatever is asked: it is one step of the rules. `S` and `I` are the shelf
-- and the item table before the call, `S'` and `I'` after it, `r` is what it returns. Assumes nothing.
use Rattle.std.specs.Prelude.{◌≡◌, Result}
use Rattle.numbers.specs.Library.{ℕ, List, ℤ, Bool}
use Rattle.rows.specs.Prelude.{rows, zero_header}
use Rattle.rows.specs.declared.header.Header.{Header}
use Rattle.rules.specs.Prelude.{Outcome, Call, Create, Allocate, Release, LookUp, ListIn, Clear, Occupied, FreeSpace, Size, IsEmpty, Value, Answering, Answers}
use Rattle.rules.specs.Prelude.{Promise}
use Rattle.promises.specs.Answering.{creations, grants, replies, areas, extents, vacancies, listings}
use Rattle.promises.specs.Records.{records, counted, filled}
use Rattle.numbers.specs.declared.refusal.Refusal.{Refusal}
use Rattle.rows.specs.declared.live.Live.{Live}
use Rattle.promises.specs.declared.{answers.Answered.Answered, answers.Sides.Sides}

-- the call is answered so, and leaves this header and these tables
abbrev pub Promises : {A : Type 0} → Answering A → Call → Header → List ℕ → List ℕ → A → Header → List ℕ → List ℕ → Type 0
Promises t call h S I r h' S' I' = Promise call (Answers t call r) h S I h' S' I'

-- ---- the calls that may change something

unfoldable pub Creates : (S I : List ℕ) (w h alignWidth alignHeight vertical columns : ℤ) (r : Answered ℕ) (S' I' : List ℕ) → Type 0
Creates S I w h alignWidth alignHeight vertical columns r S' I' =
    Promises creations (Create w h alignWidth alignHeight vertical columns) zero_header S I r.answer r.header S' I'

unfoldable pub Allocates : (h : Header) (S I : List ℕ) (w height : ℤ) (r : Answered Live) (S' I' : List ℕ) → Type 0
Allocates h S I w height r S' I' = Promises grants (Allocate w height) h S I r.answer r.header S' I'

unfoldable pub Releases : (h : Header) (S I : List ℕ) (row generation : ℕ) (r : Answered (Unit {0})) (S' I' : List ℕ) → Type 0
Releases h S I row generation r S' I' = Promises replies (Release row generation) h S I r.answer r.header S' I'

unfoldable pub Clears : (h : Header) (S I : List ℕ) (r : Answered (Unit {0})) (S' I' : List ℕ) → Type 0
Clears h S I r S' I' = Promises replies Clear h S I r.answer r.header S' I'

-- ---- the calls that change nothing

abbrev pub Tells : {A : Type 0} → Answering A → Call → Header → List ℕ → List ℕ → A → Type 0
Tells t call h S I r = Promises t call h S I r h S I

unfoldable pub LooksUp : (h : Header) (S I : List ℕ) (row generation : ℕ) (r : Result Live Refusal) → Type 0
LooksUp h S I row generation r = Tells grants (LookUp row generation) h S I r

unfoldable pub TellsOccupied : (h : Header) (S I : List ℕ) (r : Result ℕ Refusal) → Type 0
TellsOccupied h S I r = Tells areas Occupied h S I r

unfoldable pub TellsFreeSpace : (h : Header) (S I : List ℕ) (r : Result ℕ Refusal) → Type 0
TellsFreeSpace h S I r = Tells areas FreeSpace h S I r

unfoldable pub TellsSize : (h : Header) (S I : List ℕ) (r : Result Sides Refusal) → Type 0
TellsSize h S I r = Tells extents Size h S I r

unfoldable pub TellsEmpty : (h : Header) (S I : List ℕ) (r : Result Bool Refusal) → Type 0
TellsEmpty h S I r = Tells vacancies IsEmpty h S I r

-- the answer is the count of the items, which stand in the lent list `out`, and `out'` is that list after the call
pub record ListedSo (call : Call) (out : List ℕ) (r : Result ℕ Refusal) (out' : List ℕ) (o : Outcome Value) : Type 0 where
  pub answers : Answers listings call r (counted o)
  pub listed : out' ≡ filled out o

unfoldable pub Lists : (h : Header) (S I out : List ℕ) (r : Result ℕ Refusal) (out' : List ℕ) → Type 0
Lists h S I out r out' = Promise (ListIn (rows records out)) (ListedSo (ListIn (rows records out)) out r out') h S I h S I
