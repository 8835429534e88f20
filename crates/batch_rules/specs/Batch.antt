-- What a batch promises: 3 where the tables don't pass, 10 where the list of answers is too short, and else the answers, header and tables of the single calls, one
-- after the other, from the atlas that is met in the tables. Assumes nothing.
use Rattle.std.specs.Prelude.{◌≤◌, ◌<◌, ◌≡◌, Ok, Err}
use Rattle.numbers.specs.Library.{ℕ, zero, suc, List}
use Rattle.numbers.specs.declared.refusal.Refusal.{Refusal}
use Rattle.numbers.specs.declared.refusal.Refusal.TheVariants as refusal
use Rattle.rows.specs.Prelude.{rows, get, put}
use Rattle.rows.specs.declared.header.Header.{Header}
use Rattle.rules.specs.Prelude.{Atlas, Room, room_in, atlas_in, Passes, standing, told_of, step_in, Unchanged, Becomes, Promise}
use Rattle.promises.specs.declared.answers.Answered.{Answered}
use Rattle.batch_rules.specs.Asked.{askings, tolds, call_of}
use Rattle.batch_rules.specs.Asked as asked
use Rattle.batch_rules.specs.declared.{values.Asking.Asking, values.Told.Told, values.Served.Served}

-- ---- from request to request: `l` is the list of requests, and `a` the atlas before the first

module _ (room : Room) (l : List ℕ) (a : Atlas) where
  -- the atlas after the first k of them
  unfoldable pub atlas_after : ℕ → Atlas
  unfolding step_in call_of
  atlas_after zero = a
  atlas_after (suc k) = standing (atlas_after k) (step_in room (atlas_after k) (call_of (get askings l k)))

  -- what is told of request k
  unfoldable pub told_at : ℕ → Told
  unfolding step_in call_of atlas_after
  told_at k = asked.told_of (told_of (step_in room (atlas_after k) (call_of (get askings l k))))

  -- the list of answers with the first k in it
  unfoldable pub answers_after : List ℕ → ℕ → List ℕ
  unfolding told_at
  answers_after out zero = out
  answers_after out (suc k) = put tolds (answers_after out k) k (told_at k)

-- what the first n of them leave: the header, both tables, and the list of answers
pub record ServesFirst (h : Header) (S I l out : List ℕ) (n : ℕ) (h' : Header) (S' I' out' : List ℕ) : Type 0 where
  pub becomes : Becomes S I h' S' I' (atlas_after (room_in S I) l (atlas_in h S I) n)
  pub output : out' ≡ answers_after (room_in S I) l (atlas_in h S I) out n

-- ---- the promise

-- One request is served as its single call: that call's promise, and its answer told.
abbrev pub ServesOne : Header → List ℕ → List ℕ → Asking → Served → List ℕ → List ℕ → Type 0
ServesOne h S I q r S' I' = Promise (call_of q) (λ o. r.told ≡ asked.told_of o) h S I r.header S' I'

-- all is as it was, and this is the answer
pub record Refuses (h : Header) (S I out : List ℕ) (e : Refusal) (r : Answered ℕ) (S' I' out' : List ℕ) : Type 0 where
  pub answer : r.answer ≡ Err e
  pub unchanged : Unchanged h S I r.header S' I'
  pub output : out' ≡ out

-- how many requests there are is told; each is answered in its place, and the atlas is what they leave
pub record Serves (h : Header) (S I l out : List ℕ) (r : Answered ℕ) (S' I' out' : List ℕ) : Type 0 where
  pub answer : r.answer ≡ Ok (rows askings l)
  pub served : ServesFirst h S I l out (rows askings l) r.header S' I' out'

pub data Batches (h : Header) (S I l out : List ℕ) (r : Answered ℕ) (S' I' out' : List ℕ) : Type 0 where
  fails : (¬ Passes h S I) → Refuses h S I out refusal.Audit r S' I' out' → Batches h S I l out r S' I' out'
  too_short : Passes h S I → rows tolds out < rows askings l → Refuses h S I out refusal.TooShort r S' I' out' → Batches h S I l out r S' I' out'
  serves : Passes h S I → rows askings l ≤ rows tolds out → Serves h S I l out r S' I' out' → Batches h S I l out r S' I' out'

-- ---- the single calls, one after the other

-- Each keeps its promise, from what the one before it left, and tells this answer.
pub data OneByOne (l : List ℕ) (h : Header) (S I out : List ℕ) : ℕ → Header → List ℕ → List ℕ → List ℕ → Type 0 where
  start : OneByOne l h S I out 0 h S I out
  then : {k : ℕ} {h₁ : Header} {S₁ I₁ out₁ : List ℕ} → OneByOne l h S I out k h₁ S₁ I₁ out₁ → (t : Told) (h₂ : Header) (S₂ I₂ : List ℕ)
      → Promise (call_of (get askings l k)) (λ o. t ≡ asked.told_of o) h₁ S₁ I₁ h₂ S₂ I₂ → OneByOne l h S I out (suc k) h₂ S₂ I₂ (put tolds out₁ k t)
