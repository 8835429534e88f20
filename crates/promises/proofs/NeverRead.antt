-- "Numbers after the used rows are never read", for every call: two states of the same lengths that agree on the header and the used rows are answered
-- alike, and what is left agrees on the header and the used rows again. What a call asks holds for both or for neither, the step that it takes is
-- one and the same, and its outcome tells the used rows that it leaves. One proof for all calls. Assumes nothing.
use Rattle.std.specs.Prelude.{◌≡◌, Result}
use Rattle.numbers.specs.Library.{ℕ, arith, refl, sym, ap, ◌∙◌, Bool, true, false, List, ℤ, length}
use Rattle.numbers.specs.Prelude.{pick}
use Rattle.rows.specs.Prelude.{rows, zero_header}
use Rattle.rows.specs.declared.header.Header.{Header}
use Rattle.rules.specs.Prelude.{Atlas, Room, room_in, atlas_in, Passes, Outcome, refused, gives, Given, clear, Call, Create, Allocate, Release, LookUp, ListIn}
use Rattle.rules.specs.Prelude.{Clear, Occupied, FreeSpace, Size, IsEmpty, Totals, NoSuchId, Unreadable, Value, is_create, step_in, step_without, step, Leaves}
use Rattle.rules.specs.Prelude.{header_kept, Answering, Asks, fails, passes, Comes, Promise}
use Rattle.laws.specs.Same.{SameUsed, SameRead, SameVerdict}
use Rattle.laws.proofs.Stored.Reading.{same_verdict, same_atlas}
use Rattle.bridge.proofs.Outcome.{same_outcome}
use Rattle.promises.specs.Prelude.{creations, grants, replies, areas, extents, vacancies, records, Promises, Creates, Allocates, Releases, Clears}
use Rattle.promises.specs.Prelude.{LooksUp, TellsOccupied, TellsFreeSpace, TellsSize, TellsEmpty, Lists}
use Rattle.numbers.specs.declared.refusal.Refusal.{Refusal}
use Rattle.rows.specs.declared.live.Live.{Live}
use Rattle.promises.specs.declared.{answers.Answered.Answered, answers.Sides.Sides}
use Rattle.promises.proofs.Outcomes.{listed_once}
use Rattle.promises.proofs.Steps.{same_room, as_long}

-- with the all-zero header no row is used: tables of the same lengths are alike
pub no_rows : (S T I J : List ℕ) → length S ≡ length T → length I ≡ length J → SameRead zero_header S T I J
no_rows S T I J s i = record {
  used = record { header = refl; shelf_rows = λ r b. absurd (omega arith); item_rows = λ r b. absurd (omega arith) };
  shelves_long = s;
  items_long = i;
}

-- `S` and `I` are one state's tables and `T` and `J` the other's; the header is that of both
module _ (h : Header) (S T I J : List ℕ) (read : SameRead h S T I J) where
  room_alike : room_in S I ≡ room_in T J
  room_alike = same_room T J S I read.shelves_long read.items_long

  -- ---- what a call asks, and the step that it takes

  same : SameVerdict h S T I J
  same = same_verdict h S T I J read

  asks_alike : (call : Call) → (Asks call h S I → Asks call h T J) × (Asks call h T J → Asks call h S I)
  unfolding Asks
  asks_alike (Create w height alignWidth alignHeight vertical columns) = (λ p. tt, λ p. tt)
  asks_alike (Allocate w height) = same.passes
  asks_alike (Release row generation) = same.passes
  asks_alike (LookUp row generation) = same.passes
  asks_alike (ListIn records) = same.passes
  asks_alike Clear = same.for_clear
  asks_alike Occupied = same.passes
  asks_alike FreeSpace = same.passes
  asks_alike Size = same.passes
  asks_alike IsEmpty = same.passes
  asks_alike Totals = same.passes
  asks_alike NoSuchId = same.passes
  asks_alike Unreadable = (λ p. tt, λ p. tt)

  module _ (room : Room) where
    -- where the tables pass, by the atlas, which is the same
    by_atlas : (call : Call) → Passes h S I → step_in room (atlas_in h S I) call ≡ step_in room (atlas_in h T J) call
    by_atlas call p = ap (λ (a : Atlas). step_in room a call) (same_atlas h S T I J read p)

    -- tables that can be cleared may not pass, but clear looks only at the limits, which stand in the header
    step_alike : (call : Call) → Asks call h S I → step_in room (atlas_in h S I) call ≡ step_in room (atlas_in h T J) call
    unfolding Asks step_in clear atlas_in
    step_alike (Create w height alignWidth alignHeight vertical columns) p = refl
    step_alike (Allocate w height) p = by_atlas (Allocate w height) p
    step_alike (Release row generation) p = by_atlas (Release row generation) p
    step_alike (LookUp row generation) p = by_atlas (LookUp row generation) p
    step_alike (ListIn records) p = by_atlas (ListIn records) p
    step_alike Clear p = refl
    step_alike Occupied p = by_atlas Occupied p
    step_alike FreeSpace p = by_atlas FreeSpace p
    step_alike Size p = by_atlas Size p
    step_alike IsEmpty p = by_atlas IsEmpty p
    step_alike Totals p = by_atlas Totals p
    step_alike NoSuchId p = by_atlas NoSuchId p
    step_alike Unreadable p = refl

  -- ---- what is left

  module _ (call : Call) (h₁ : Header) (S₁ I₁ : List ℕ) (h₂ : Header) (T₂ J₂ : List ℕ) where
    -- the same header, and the two states after the call are alike again
    abbrev pub Alike : Type 0
    Alike = (h₁ ≡ h₂) × SameRead h₁ S₁ T₂ I₁ J₂

    lengths : (o : Outcome (Given Value)) → Leaves call h S I h₁ S₁ I₁ o → Leaves call h T J h₂ T₂ J₂ o → (length S₁ ≡ length T₂) × (length I₁ ≡ length J₂)
    lengths o u v =
        let (s, i) = as_long call h S I h₁ S₁ I₁ o u in
        let (t, j) = as_long call h T J h₂ T₂ J₂ o v in
        (s ∙ read.shelves_long ∙ sym t, i ∙ read.items_long ∙ sym j)

    used_alike : SameUsed h₁ h₂ S₁ T₂ I₁ J₂ → length S₁ ≡ length T₂ → length I₁ ≡ length J₂ → Alike
    used_alike u s i = (
      u.header,
      record { used = record { header = refl; shelf_rows = u.shelf_rows; item_rows = u.item_rows }; shelves_long = s; items_long = i },
    )

    -- a refusal keeps both states, but a refused create leaves the all-zero header
    kept_alike : (create : Bool) → SameRead (pick create zero_header h) S T I J
    kept_alike true = no_rows S T I J read.shelves_long read.items_long
    kept_alike false = read

    left_alike : (o : Outcome (Given Value)) → Leaves call h S I h₁ S₁ I₁ o → Leaves call h T J h₂ T₂ J₂ o → Alike
    unfolding Leaves header_kept
    left_alike (refused n) u v =
        (u.header ∙ sym v.header, rw (u.header, u.shelves, v.shelves, u.items, v.items) (kept_alike (is_create call)))
    left_alike (gives g) u v =
        let (s, i) = lengths (gives g) u v in
        used_alike (same_outcome S I T J h₁ h₂ S₁ I₁ T₂ J₂ g.atlas u v) s i

    -- ---- the promise

    -- whatever is said of an outcome, if it can be said in one way only
    pub never_read : {Says₁ Says₂ : Outcome Value → Type 0} {E : Type 0} → ((o : Outcome Value) → Says₁ o → Says₂ o → E)
        → Promise call Says₁ h S I h₁ S₁ I₁ → Promise call Says₂ h T J h₂ T₂ J₂ → E × Alike
    unfolding Promise step
    never_read {Says₁} {Says₂} {E} agree = go where
      both : (o : Outcome (Given Value)) → Comes call Says₁ h S I h₁ S₁ I₁ o → Comes call Says₂ h T J h₂ T₂ J₂ o → E × Alike
      both o a b = (agree _ a.says b.says, left_alike o a.leaves b.leaves)

      go : Promise call Says₁ h S I h₁ S₁ I₁ → Promise call Says₂ h T J h₂ T₂ J₂ → E × Alike
      go (fails n a) (fails m b) = both (step_without (room_in T J) call) (rw room_alike at a) b
      go (fails n a) (passes q b) = absurd (n ((asks_alike call).1 q))
      go (passes p a) (fails m b) = absurd (m ((asks_alike call).0 p))
      go (passes p a) (passes q b) = both (step_in (room_in T J) (atlas_in h T J) call) (rw (room_alike, step_alike (room_in T J) call p) at a) b

    -- an answer can
    pub never_read_answer : {A : Type 0} (t : Answering A) (r₁ r₂ : A) → Promises t call h S I r₁ h₁ S₁ I₁ → Promises t call h T J r₂ h₂ T₂ J₂ → (r₁ ≡ r₂) × Alike
    never_read_answer t r₁ r₂ = never_read (λ o a b. t.apart r₁ r₂ (a.says ∙ sym b.says))

-- ---- each public call that may change something: answer and header are the same, and the tables after it are alike

module _ (S T I J S₁ I₁ T₂ J₂ : List ℕ) where
  -- create reads no row: tables of the same lengths suffice
  pub same_create : length S ≡ length T → length I ≡ length J → (w h alignWidth alignHeight vertical columns : ℤ) (r₁ r₂ : Answered ℕ)
      → Creates S I w h alignWidth alignHeight vertical columns r₁ S₁ I₁ → Creates T J w h alignWidth alignHeight vertical columns r₂ T₂ J₂
      → (r₁ ≡ r₂) × SameRead r₁.header S₁ T₂ I₁ J₂
  unfolding Creates
  same_create s i w h alignWidth alignHeight vertical columns r₁ r₂ a b =
      let (answer, (header, alike)) = never_read_answer zero_header S T I J (no_rows S T I J s i) (Create w h alignWidth alignHeight vertical columns)
      r₁.header S₁ I₁ r₂.header T₂ J₂ creations r₁.answer r₂.answer a b in
      (λ z. record { answer = answer z; header = header z }, alike)

  module _ (h : Header) (read : SameRead h S T I J) where
    pub same_allocate : (w height : ℤ) (r₁ r₂ : Answered Live) → Allocates h S I w height r₁ S₁ I₁ → Allocates h T J w height r₂ T₂ J₂
        → (r₁ ≡ r₂) × SameRead r₁.header S₁ T₂ I₁ J₂
    unfolding Allocates
    same_allocate w height r₁ r₂ a b =
        let (answer, (header, alike)) = never_read_answer h S T I J read (Allocate w height) r₁.header S₁ I₁ r₂.header T₂ J₂ grants r₁.answer r₂.answer a b in
        (λ z. record { answer = answer z; header = header z }, alike)

    same_replied : (call : Call) (r₁ r₂ : Answered (Unit {0})) → Promises replies call h S I r₁.answer r₁.header S₁ I₁ → Promises replies call h T J r₂.answer r₂.header T₂ J₂
        → (r₁ ≡ r₂) × SameRead r₁.header S₁ T₂ I₁ J₂
    same_replied call r₁ r₂ a b =
        let (answer, (header, alike)) = never_read_answer h S T I J read call r₁.header S₁ I₁ r₂.header T₂ J₂ replies r₁.answer r₂.answer a b in
        (λ z. record { answer = answer z; header = header z }, alike)

    pub same_release : (row generation : ℕ) (r₁ r₂ : Answered (Unit {0})) → Releases h S I row generation r₁ S₁ I₁ → Releases h T J row generation r₂ T₂ J₂
        → (r₁ ≡ r₂) × SameRead r₁.header S₁ T₂ I₁ J₂
    unfolding Releases
    same_release row generation = same_replied (Release row generation)

    pub same_clear : (r₁ r₂ : Answered (Unit {0})) → Clears h S I r₁ S₁ I₁ → Clears h T J r₂ T₂ J₂ → (r₁ ≡ r₂) × SameRead r₁.header S₁ T₂ I₁ J₂
    unfolding Clears
    same_clear = same_replied Clear

-- ---- each public call that changes nothing: the answer is the same

module _ (h : Header) (S T I J : List ℕ) (read : SameRead h S T I J) where
  same_told : {A : Type 0} (t : Answering A) (call : Call) (r₁ r₂ : A) → Promises t call h S I r₁ h S I → Promises t call h T J r₂ h T J → r₁ ≡ r₂
  same_told t call r₁ r₂ a b = (never_read_answer h S T I J read call h S I h T J t r₁ r₂ a b).0

  pub same_look_up : (row generation : ℕ) (r₁ r₂ : Result Live Refusal) → LooksUp h S I row generation r₁ → LooksUp h T J row generation r₂ → r₁ ≡ r₂
  unfolding LooksUp
  same_look_up row generation = same_told grants (LookUp row generation)

  pub same_occupied : (r₁ r₂ : Result ℕ Refusal) → TellsOccupied h S I r₁ → TellsOccupied h T J r₂ → r₁ ≡ r₂
  unfolding TellsOccupied
  same_occupied = same_told areas Occupied

  pub same_free_space : (r₁ r₂ : Result ℕ Refusal) → TellsFreeSpace h S I r₁ → TellsFreeSpace h T J r₂ → r₁ ≡ r₂
  unfolding TellsFreeSpace
  same_free_space = same_told areas FreeSpace

  pub same_size : (r₁ r₂ : Result Sides Refusal) → TellsSize h S I r₁ → TellsSize h T J r₂ → r₁ ≡ r₂
  unfolding TellsSize
  same_size = same_told extents Size

  pub same_is_empty : (r₁ r₂ : Result Bool Refusal) → TellsEmpty h S I r₁ → TellsEmpty h T J r₂ → r₁ ≡ r₂
  unfolding TellsEmpty
  same_is_empty = same_told vacancies IsEmpty

  -- and so is the lent list after it
  pub same_list : (out out₁ out₂ : List ℕ) (r₁ r₂ : Result ℕ Refusal) → Lists h S I out r₁ out₁ → Lists h T J out r₂ out₂ → (r₁ ≡ r₂) × (out₁ ≡ out₂)
  unfolding Lists
  same_list out out₁ out₂ r₁ r₂ a b = (never_read h S T I J read (ListIn (rows records out)) h S I h T J (λ o. listed_once) a b).0
