-- Any two outcomes that a promise allows are equal: the answer, the header, every number of both tables and of a lent list. One proof for all calls.
-- Assumes nothing.
use Rattle.std.specs.Prelude.{◌≡◌, Result}
use Rattle.numbers.specs.Library.{ℕ, sym, ◌∙◌, List, ℤ, Bool}
use Rattle.rows.specs.Prelude.{rows, zero_header}
use Rattle.rows.specs.declared.header.Header.{Header}
use Rattle.rules.specs.Prelude.{Outcome, refused, gives, Given, Call, Create, Allocate, Release, LookUp, ListIn, Clear, Occupied, FreeSpace, Size, IsEmpty}
use Rattle.rules.specs.Prelude.{Value, Leaves, Answering, Judged, fails, passes, Comes, Promise}
use Rattle.bridge.proofs.Outcome.{one_outcome}
use Rattle.promises.specs.Prelude.{creations, grants, replies, areas, extents, vacancies, listings, records, Promises, Creates, Allocates, Releases}
use Rattle.promises.specs.Prelude.{Clears, LooksUp, TellsOccupied, TellsFreeSpace, TellsSize, TellsEmpty, ListedSo, Lists}
use Rattle.numbers.specs.declared.refusal.Refusal.{Refusal}
use Rattle.rows.specs.declared.live.Live.{Live}
use Rattle.promises.specs.declared.{answers.Answered.Answered, answers.Sides.Sides}

-- the first check fails for both or passes for both
pub once : {Right O E : Type 0} {Had Had' : O → Type 0} {refusal answer : O} → ((o : O) → Had o → Had' o → E)
    → Judged Right Had refusal answer → Judged Right Had' refusal answer → E
once same (fails n had) (fails m had') = same _ had had'
once same (fails n had) (passes p had') = absurd (n p)
once same (passes p had) (fails n had') = absurd (n p)
once same (passes p had) (passes q had') = same _ had had'

module _ (call : Call) (h : Header) (S I : List ℕ) (h₁ : Header) (S₁ I₁ : List ℕ) (h₂ : Header) (S₂ I₂ : List ℕ) where
  -- header and tables
  abbrev pub SameTables : Type 0
  SameTables = (h₁ ≡ h₂) × (S₁ ≡ S₂) × (I₁ ≡ I₂)

  left_once : (o : Outcome (Given Value)) → Leaves call h S I h₁ S₁ I₁ o → Leaves call h S I h₂ S₂ I₂ o → SameTables
  unfolding Leaves
  left_once (refused n) u v = (u.header ∙ sym v.header, u.shelves ∙ sym v.shelves, u.items ∙ sym v.items)
  left_once (gives g) u v = one_outcome S I h₁ h₂ S₁ I₁ S₂ I₂ g.atlas u v

  -- whatever is said of an outcome, if it can be said in one way only
  pub one_promise : {Says₁ Says₂ : Outcome Value → Type 0} {E : Type 0} → ((o : Outcome Value) → Says₁ o → Says₂ o → E)
      → Promise call Says₁ h S I h₁ S₁ I₁ → Promise call Says₂ h S I h₂ S₂ I₂ → E × SameTables
  unfolding Promise
  one_promise {Says₁} {Says₂} {E} same = once both where
    both : (o : Outcome (Given Value)) → Comes call Says₁ h S I h₁ S₁ I₁ o → Comes call Says₂ h S I h₂ S₂ I₂ o → E × SameTables
    both o a b = (same _ a.says b.says, left_once o a.leaves b.leaves)

  -- an answer can
  pub one_answer : {A : Type 0} (t : Answering A) (r₁ r₂ : A) → Promises t call h S I r₁ h₁ S₁ I₁ → Promises t call h S I r₂ h₂ S₂ I₂ → (r₁ ≡ r₂) × SameTables
  one_answer t r₁ r₂ = one_promise (λ o a b. t.apart r₁ r₂ (a.says ∙ sym b.says))

-- ---- each public call

module _ (S I S₁ I₁ S₂ I₂ : List ℕ) where
  -- answer and header, and both tables
  abbrev pub Same : {R : Type 0} → R → R → Type 0
  Same r₁ r₂ = (r₁ ≡ r₂) × (S₁ ≡ S₂) × (I₁ ≡ I₂)

  pub one_create : (w h alignWidth alignHeight vertical columns : ℤ) (r₁ r₂ : Answered ℕ)
      → Creates S I w h alignWidth alignHeight vertical columns r₁ S₁ I₁ → Creates S I w h alignWidth alignHeight vertical columns r₂ S₂ I₂ → Same r₁ r₂
  unfolding Creates
  one_create w h alignWidth alignHeight vertical columns r₁ r₂ a b =
      let (answer, (header, s, i)) = one_answer (Create w h alignWidth alignHeight vertical columns) zero_header S I r₁.header S₁ I₁ r₂.header S₂ I₂ creations r₁.answer r₂.answer a b in
      (λ z. record { answer = answer z; header = header z }, s, i)

  module _ (h : Header) where
    pub one_allocate : (w height : ℤ) (r₁ r₂ : Answered Live) → Allocates h S I w height r₁ S₁ I₁ → Allocates h S I w height r₂ S₂ I₂ → Same r₁ r₂
    unfolding Allocates
    one_allocate w height r₁ r₂ a b =
        let (answer, (header, s, i)) = one_answer (Allocate w height) h S I r₁.header S₁ I₁ r₂.header S₂ I₂ grants r₁.answer r₂.answer a b in
        (λ z. record { answer = answer z; header = header z }, s, i)

    replied_once : (call : Call) (r₁ r₂ : Answered (Unit {0})) → Promises replies call h S I r₁.answer r₁.header S₁ I₁ → Promises replies call h S I r₂.answer r₂.header S₂ I₂ → Same r₁ r₂
    replied_once call r₁ r₂ a b =
        let (answer, (header, s, i)) = one_answer call h S I r₁.header S₁ I₁ r₂.header S₂ I₂ replies r₁.answer r₂.answer a b in
        (λ z. record { answer = answer z; header = header z }, s, i)

    pub one_release : (row generation : ℕ) (r₁ r₂ : Answered (Unit {0})) → Releases h S I row generation r₁ S₁ I₁ → Releases h S I row generation r₂ S₂ I₂ → Same r₁ r₂
    unfolding Releases
    one_release row generation = replied_once (Release row generation)

    pub one_clear : (r₁ r₂ : Answered (Unit {0})) → Clears h S I r₁ S₁ I₁ → Clears h S I r₂ S₂ I₂ → Same r₁ r₂
    unfolding Clears
    one_clear = replied_once Clear

-- a list can be told in one way only
pub listed_once : {call : Call} {out out₁ out₂ : List ℕ} {r₁ r₂ : Result ℕ Refusal} {o : Outcome Value} → ListedSo call out r₁ out₁ o → ListedSo call out r₂ out₂ o
    → (r₁ ≡ r₂) × (out₁ ≡ out₂)
listed_once {r₁ = r₁} {r₂ = r₂} a b = (listings.apart r₁ r₂ (a.answers.says ∙ sym b.answers.says), a.listed ∙ sym b.listed)

module _ (h : Header) (S I : List ℕ) where
  told_once : {A : Type 0} (t : Answering A) (call : Call) (r₁ r₂ : A) → Promises t call h S I r₁ h S I → Promises t call h S I r₂ h S I → r₁ ≡ r₂
  told_once t call r₁ r₂ a b = (one_answer call h S I h S I h S I t r₁ r₂ a b).0

  pub one_look_up : (row generation : ℕ) (r₁ r₂ : Result Live Refusal) → LooksUp h S I row generation r₁ → LooksUp h S I row generation r₂ → r₁ ≡ r₂
  unfolding LooksUp
  one_look_up row generation = told_once grants (LookUp row generation)

  pub one_occupied : (r₁ r₂ : Result ℕ Refusal) → TellsOccupied h S I r₁ → TellsOccupied h S I r₂ → r₁ ≡ r₂
  unfolding TellsOccupied
  one_occupied = told_once areas Occupied

  pub one_free_space : (r₁ r₂ : Result ℕ Refusal) → TellsFreeSpace h S I r₁ → TellsFreeSpace h S I r₂ → r₁ ≡ r₂
  unfolding TellsFreeSpace
  one_free_space = told_once areas FreeSpace

  pub one_size : (r₁ r₂ : Result Sides Refusal) → TellsSize h S I r₁ → TellsSize h S I r₂ → r₁ ≡ r₂
  unfolding TellsSize
  one_size = told_once extents Size

  pub one_is_empty : (r₁ r₂ : Result Bool Refusal) → TellsEmpty h S I r₁ → TellsEmpty h S I r₂ → r₁ ≡ r₂
  unfolding TellsEmpty
  one_is_empty = told_once vacancies IsEmpty

  pub one_list : (out out₁ out₂ : List ℕ) (r₁ r₂ : Result ℕ Refusal) → Lists h S I out r₁ out₁ → Lists h S I out r₂ out₂ → (r₁ ≡ r₂) × (out₁ ≡ out₂)
  unfolding Lists
  one_list out out₁ out₂ r₁ r₂ a b = (one_promise (ListIn (rows records out)) h S I h S I h S I (λ o. listed_once) a b).0
