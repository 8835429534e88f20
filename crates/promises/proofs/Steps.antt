-- Every call's promise is one step of the rules. With the all-zero header no audit passes, so it is the step with no atlas; where the tables pass, what
-- any call asks holds, so it is the step with the atlas that is met there; and what it leaves holds the atlas that stands after the step. So the
-- promises of a run of calls are a run of the rules. Assumes nothing.
use Rattle.std.specs.Prelude.{◌≡◌}
use Rattle.numbers.specs.Library.{ℕ, refl, ap, Bool, true, false, false≢true, List, Option, none, some, length}
use Rattle.numbers.specs.Prelude.{pick, pick_same}
use Rattle.rows.specs.Prelude.{rows_long, items, shelves, zero_header}
use Rattle.rows.specs.declared.header.Header.{Header}
use Rattle.rules.specs.Prelude.{Atlas, Room, room_in, atlas_in, Passes, Outcome, refused, gives, mapped, Given, Call, Create, Allocate, Release, LookUp, ListIn}
use Rattle.rules.specs.Prelude.{Clear, Occupied, FreeSpace, Size, IsEmpty, Totals, NoSuchId, Unreadable, Value, is_create, told_of, step_in, step_without, step}
use Rattle.rules.specs.Prelude.{atlas_after, Unchanged, Leaves, header_kept, Asks, fails, passes, Comes, Promise}
use Rattle.laws.proofs.Stored.ForClear.{passes_for_clear, zero_fails, zero_fails_clear}

-- ---- with no atlas

-- "Before the first good n, all but n and bad lines": create and an unreadable line ask for no atlas, every other call does
unfoldable pub asks_atlas : Call → Bool
asks_atlas (Create w h alignWidth alignHeight vertical columns) = false
asks_atlas (Allocate w h) = true
asks_atlas (Release row generation) = true
asks_atlas (LookUp row generation) = true
asks_atlas (ListIn records) = true
asks_atlas Clear = true
asks_atlas Occupied = true
asks_atlas FreeSpace = true
asks_atlas Size = true
asks_atlas IsEmpty = true
asks_atlas Totals = true
asks_atlas NoSuchId = true
asks_atlas Unreadable = false

-- what a call asks does not hold with the all-zero header; a call that asks nothing comes to the same with an atlas and with none
same_without : (S I : List ℕ) (a : Atlas) (call : Call) → Asks call zero_header S I → step_in (room_in S I) a call ≡ step_without (room_in S I) call
unfolding Asks step_in step_without
same_without S I a (Create w h alignWidth alignHeight vertical columns) p = refl
same_without S I a (Allocate w h) p = absurd (zero_fails S I p)
same_without S I a (Release row generation) p = absurd (zero_fails S I p)
same_without S I a (LookUp row generation) p = absurd (zero_fails S I p)
same_without S I a (ListIn records) p = absurd (zero_fails S I p)
same_without S I a Clear p = absurd (zero_fails_clear S I p)
same_without S I a Occupied p = absurd (zero_fails S I p)
same_without S I a FreeSpace p = absurd (zero_fails S I p)
same_without S I a Size p = absurd (zero_fails S I p)
same_without S I a IsEmpty p = absurd (zero_fails S I p)
same_without S I a Totals p = absurd (zero_fails S I p)
same_without S I a NoSuchId p = absurd (zero_fails S I p)
same_without S I a Unreadable p = refl

-- every call that asks for an atlas is refused where there is none
without_3 : (room : Room) (call : Call) → asks_atlas call ≡ true → step_without room call ≡ refused 3
unfolding asks_atlas step_without
without_3 room (Create w h alignWidth alignHeight vertical columns) e = absurd (false≢true e)
without_3 room (Allocate w h) e = refl
without_3 room (Release row generation) e = refl
without_3 room (LookUp row generation) e = refl
without_3 room (ListIn records) e = refl
without_3 room Clear e = refl
without_3 room Occupied e = refl
without_3 room FreeSpace e = refl
without_3 room Size e = refl
without_3 room IsEmpty e = refl
without_3 room Totals e = refl
without_3 room NoSuchId e = refl
without_3 room Unreadable e = absurd (false≢true e)

module _ (call : Call) (Says : Outcome Value → Type 0) (S I : List ℕ) (h' : Header) (S' I' : List ℕ) where
  -- from the all-zero header and any tables, every call is the step with no atlas
  pub without : Promise call Says zero_header S I h' S' I' → Comes call Says zero_header S I h' S' I' (step (room_in S I) none call)
  unfolding Promise step
  without (fails n had) = had
  without (passes p had) = rw (same_without S I (atlas_in zero_header S I) call p) at had

  -- "Before the first good n, all but n and bad lines answer no 3", and nothing changes
  pub before_first : asks_atlas call ≡ true → Promise call Says zero_header S I h' S' I' → Says (refused 3) × Unchanged zero_header S I h' S' I'
  unfolding step Leaves header_kept mapped
  before_first e promise =
      let had : Comes call Says zero_header S I h' S' I' (refused 3) = rw (without_3 (room_in S I) call e) at (without promise) in
      (had.says, rw (pick_same (is_create call) zero_header zero_header refl) at had.leaves)

-- ---- with an atlas

-- tables that pass give every call what it asks
pub asks_passing : (call : Call) (h : Header) (S I : List ℕ) → Passes h S I → Asks call h S I
unfolding Asks
asks_passing (Create w height alignWidth alignHeight vertical columns) h S I p = tt
asks_passing (Allocate w height) h S I p = p
asks_passing (Release row generation) h S I p = p
asks_passing (LookUp row generation) h S I p = p
asks_passing (ListIn records) h S I p = p
asks_passing Clear h S I p = passes_for_clear h S I p
asks_passing Occupied h S I p = p
asks_passing FreeSpace h S I p = p
asks_passing Size h S I p = p
asks_passing IsEmpty h S I p = p
asks_passing Totals h S I p = p
asks_passing NoSuchId h S I p = p
asks_passing Unreadable h S I p = tt

-- on tables that pass, every call is the step with the atlas that is met there
pub on_passing : (call : Call) (Says : Outcome Value → Type 0) (h : Header) (S I : List ℕ) (h' : Header) (S' I' : List ℕ)
    → Passes h S I → Promise call Says h S I h' S' I' → Comes call Says h S I h' S' I' (step (room_in S I) (some (atlas_in h S I)) call)
unfolding Promise
on_passing call Says h S I h' S' I' p (fails n had) = absurd (n (asks_passing call h S I p))
on_passing call Says h S I h' S' I' p (passes q had) = had

-- ---- from step to step

-- Header and tables hold no atlas where the header is all zeros, and an atlas where they pass and it is met there.
unfoldable pub HoldsAtlas : Header → List ℕ → List ℕ → Option Atlas → Type 0
HoldsAtlas h S I none = h ≡ zero_header
HoldsAtlas h S I (some a) = Passes h S I × (atlas_in h S I ≡ a)

-- the tables are as long as they were, so a step has the same room
pub same_room : (S I S' I' : List ℕ) → length S' ≡ length S → length I' ≡ length I → room_in S' I' ≡ room_in S I
unfolding room_in
same_room S I S' I' s i = rw (rows_long shelves S' S s, rows_long items I' I i)

module _ (call : Call) (h : Header) (S I : List ℕ) (h' : Header) (S' I' : List ℕ) where
  pub as_long : (o : Outcome (Given Value)) → Leaves call h S I h' S' I' o → (length S' ≡ length S) × (length I' ≡ length I)
  unfolding Leaves
  as_long (refused n) u = (ap length u.shelves, ap length u.items)
  as_long (gives g) u = (u.shelves_past.as_long, u.items_past.as_long)

  module _ (a : Option Atlas) (held : HoldsAtlas h S I a) where
    kept : (create : Bool) → Unchanged (pick create zero_header h) S I h' S' I' → HoldsAtlas h' S' I' (pick create none a)
    unfolding HoldsAtlas
    kept true u = u.header
    kept false u = rw (u.header, u.shelves, u.items) held

    holds_after : (o : Outcome (Given Value)) → Leaves call h S I h' S' I' o → HoldsAtlas h' S' I' (atlas_after a call o)
    unfolding HoldsAtlas Leaves header_kept atlas_after
    holds_after (refused n) u = kept (is_create call) u
    holds_after (gives g) u = (u.passes, u.atlas)

-- What a call's promise is, with an atlas that is held or none: the step's outcome is said; what is left holds the atlas that stands after the step;
-- and there is room for as many rows as before.
pub record StepsFrom (call : Call) (Says : Outcome Value → Type 0) (room : Room) (a : Option Atlas) (h' : Header) (S' I' : List ℕ) : Type 0 where
  pub says : Says (told_of (step room a call))
  pub holds : HoldsAtlas h' S' I' (atlas_after a call (step room a call))
  pub room_kept : room_in S' I' ≡ room

-- the step is taken from the atlas that is held
comes_held : (call : Call) (Says : Outcome Value → Type 0) (h : Header) (S I : List ℕ) (h' : Header) (S' I' : List ℕ) (a : Option Atlas)
    → HoldsAtlas h S I a → Promise call Says h S I h' S' I' → Comes call Says h S I h' S' I' (step (room_in S I) a call)
unfolding HoldsAtlas
comes_held call Says h S I h' S' I' none e promise = rw (← e) at (without call Says S I h' S' I' (rw e at promise))
comes_held call Says h S I h' S' I' (some a) (p, e) promise = rw e at (on_passing call Says h S I h' S' I' p promise)

pub one_step : (call : Call) (Says : Outcome Value → Type 0) (h : Header) (S I : List ℕ) (h' : Header) (S' I' : List ℕ) (a : Option Atlas)
    → HoldsAtlas h S I a → Promise call Says h S I h' S' I' → StepsFrom call Says (room_in S I) a h' S' I'
one_step call Says h S I h' S' I' a held promise =
    let o : Outcome (Given Value) = step (room_in S I) a call in
    let comes : Comes call Says h S I h' S' I' o = comes_held call Says h S I h' S' I' a held promise in
    let (s, i) = as_long call h S I h' S' I' o comes.leaves in
    record { says = comes.says; holds = holds_after call h S I h' S' I' a held o comes.leaves; room_kept = same_room S I S' I' s i }
