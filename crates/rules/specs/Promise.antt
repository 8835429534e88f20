-- What every call promises, for every header, every two tables and whatever is asked, in one form: it is one step of the rules. `h`, `S` and `I`
-- are the header, the shelf table and the item table before the call, `h'`, `S'` and `I'` after it. Assumes nothing.
use Rattle.std.specs.Prelude.{◌≡◌}
use Rattle.numbers.specs.Library.{ℕ, List, none, some}
use Rattle.numbers.specs.Prelude.{pick}
use Rattle.rows.specs.Prelude.{Past, items, shelves, zero_header}
use Rattle.rows.specs.declared.header.Header.{Header}
use Rattle.rules.specs.Atlas.{Atlas}
use Rattle.rules.specs.Stores.{room_in}
use Rattle.rules.specs.Audit.{atlas_in, Passes, PassesForClear}
use Rattle.rules.specs.Outcome.{Outcome, refused, gives, Given}
use Rattle.rules.specs.Step.{Call, Create, Allocate, Release, LookUp, ListIn, Clear, Occupied, FreeSpace, Size, IsEmpty, Totals, NoSuchId, Unreadable}
use Rattle.rules.specs.Step.{Value, is_create, answer_numbers, told_of, step}

-- ---- header and tables after a call

-- A refusal changes nothing: this header stands after it, and both tables are as they were.
pub record Unchanged (h : Header) (S I : List ℕ) (h' : Header) (S' I' : List ℕ) : Type 0 where
  pub header : h' ≡ h
  pub shelves : S' ≡ S
  pub items : I' ≡ I

-- The header h' and the tables S' and I', which were S and I, pass the audit, and the atlas met there is a'. "Numbers after the used rows
-- change only when a row is taken into use."
pub record Becomes (S I : List ℕ) (h' : Header) (S' I' : List ℕ) (a' : Atlas) : Type 0 where
  pub passes : Passes h' S' I'
  pub atlas : atlas_in h' S' I' ≡ a'
  pub shelves_past : Past shelves a'.rows.shelves.used S S'
  pub items_past : Past items a'.rows.items.used I I'

-- "A refused create or load returns an all-zero header."
unfoldable pub header_kept : Call → Header → Header
unfolding is_create
header_kept call h = pick (is_create call) zero_header h

unfoldable pub Leaves : Call → Header → List ℕ → List ℕ → Header → List ℕ → List ℕ → Outcome (Given Value) → Type 0
unfolding header_kept
Leaves call h S I h' S' I' (refused n) = Unchanged (header_kept call h) S I h' S' I'
Leaves call h S I h' S' I' (gives g) = Becomes S I h' S' I' g.atlas

-- ---- the answer

-- How a type of answers is read: what each case says, in which numbers of document 01; and no two cases say the same.
pub record Answering (A : Type 0) : Type 0 where
  pub says : A → Outcome Value
  pub numbers : A → List ℕ
  pub apart : (r s : A) → says r ≡ says s → r ≡ s

-- The answer r says the outcome o, and its numbers are document 01's for it.
pub record Answers {A : Type 0} (t : Answering A) (call : Call) (r : A) (o : Outcome Value) : Type 0 where
  pub says : t.says r ≡ o
  pub numbers : t.numbers r ≡ answer_numbers call o

-- ---- the promise

-- What a call asks of header and tables before anything else. "Clear asks only audit rule 1 and C rows in each table"; create asks nothing.
unfoldable pub Asks : Call → Header → List ℕ → List ℕ → Type 0
Asks (Create w h alignWidth alignHeight vertical columns-asked) header S I = Unit {0}
Asks (Allocate w h) header S I = Passes header S I
Asks (Release row generation) header S I = Passes header S I
Asks (LookUp row generation) header S I = Passes header S I
Asks (ListIn records) header S I = Passes header S I
Asks Clear header S I = PassesForClear header S I
Asks Occupied header S I = Passes header S I
Asks FreeSpace header S I = Passes header S I
Asks Size header S I = Passes header S I
Asks IsEmpty header S I = Passes header S I
Asks Totals header S I = Passes header S I
Asks NoSuchId header S I = Passes header S I
Asks Unreadable header S I = Unit {0}

-- Where the first check fails, one outcome is had; where it passes, the other.
pub data Judged (Right : Type 0) {O : Type 0} (Had : O → Type 0) (refusal answer : O) : Type 0 where
  fails : (¬ Right) → Had refusal → Judged Right Had refusal answer
  passes : Right → Had answer → Judged Right Had refusal answer

-- A step's outcome is said, and left in header and tables.
pub record Comes (call : Call) (Says : Outcome Value → Type 0) (h : Header) (S I : List ℕ) (h' : Header) (S' I' : List ℕ) (o : Outcome (Given Value)) : Type 0 where
  pub says : Says (told_of o)
  pub leaves : Leaves call h S I h' S' I' o

-- The call is one step of the rules: from the atlas that is met in the tables, or, where what it asks does not hold, from none.
unfoldable pub Promise : Call → (Outcome Value → Type 0) → Header → List ℕ → List ℕ → Header → List ℕ → List ℕ → Type 0
unfolding Asks
Promise call Says h S I h' S' I' =
    Judged (Asks call h S I) (Comes call Says h S I h' S' I') (step (room_in S I) none call) (step (room_in S I) (some (atlas_in h S I)) call)
