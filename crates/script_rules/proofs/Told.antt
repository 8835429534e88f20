-- What is said of a call is right: the text of a public call's answer is that of the outcome it says, and a refusal changes nothing beside its text.
-- Assumes nothing.
use Rattle.std.specs.Prelude.{◌≡◌, Option, Some, None, Result, Ok, Err}
use Rattle.numbers.specs.Library.{ℕ, refl, ap, ◌∙◌, Bool, true, false, not, List}
use Rattle.numbers.specs.Prelude.{Decides}
use Rattle.numbers.specs.declared.refusal.Refusal.{Refusal}
use Rattle.numbers.specs.declared.refusal.Refusal.TheVariants as refusal
use Rattle.rows.specs.declared.{header.Header.Header, live.Live.Live}
use Rattle.rules.specs.Prelude.{mapped, Outcome, Passes, Call, Value, NoSuchId, is_create, step_in, step_without, step, Leaves, header_kept, Answering, Answers, Asks, passes}
use Rattle.rules.specs.Prelude.{Promise}
use Rattle.promises.specs.Prelude.{says, creations, grants, replies, Promises}
use Rattle.promises.proofs.Cases.{said_so, unchanged, fails_first, refuses}
use Rattle.lines.specs.declared.command.Command.{Command}
use Rattle.texts.specs.Answer.{text_of}
use Rattle.texts.specs.declared.answer.Answer.{Answer}
use Rattle.texts.specs.declared.answer.Answer.TheVariants as answer
use Rattle.script_rules.specs.Answers.{on_id, outcome_text, created, granted, replied}
use Rattle.script_rules.specs.Step.{Texts, Calling, Doing, Said, Steps}
use Rattle.script_rules.specs.declared.{Stepped.Stepped, ids.Id.Id}

-- ---- the text of an answer is that of the outcome it says

pub created_text : (r : Result ℕ Refusal) → text_of (created r) ≡ outcome_text (creations.says r)
unfolding outcome_text creations says
created_text (Ok n) = refl
created_text (Err e) = refl

pub granted_text : (r : Result Live Refusal) → text_of (granted r) ≡ outcome_text (grants.says r)
unfolding outcome_text grants says
granted_text (Ok l) = refl
granted_text (Err e) = refl

pub replied_text : (r : Result (Unit {0}) Refusal) → text_of (replied r) ≡ outcome_text (replies.says r)
unfolding outcome_text replies says
replied_text (Ok t) = refl
replied_text (Err e) = refl

-- a public call was made: its answer's text is right beside the header that it returned
module _ {A : Type 0} (t : Answering A) (answer : A → Answer) (same : (r : A) → text_of (answer r) ≡ outcome_text (t.says r)) where
  pub told_by_lem : (call : Call) (h : Header) (S I : List ℕ) (r : A) (left : Header) (S' I' : List ℕ) → Promises t call h S I r left S' I'
      → (told : Answer) → told ≡ answer r → Calling h S I call left S' I' (text_of told)
  unfolding Calling
  told_by_lem call h S I r left S' I' promise told is =
      said_so call h S I left S' I' (λ (o : Outcome Value) (a : Answers t call r o). ap text_of is ∙ same r ∙ ap outcome_text a.says) promise

-- an answer whose text is right is put
pub said : {Right : Header → List ℕ → List ℕ → List ℕ → Type 0} {left : Header} {S' I' text out : List ℕ} {at : ℕ} {r : Stepped} {out' : List ℕ}
    → Right left S' I' text → Said left out at text r out' → Steps Right out at r S' I' out'
said {text = text} right s = record { text = text; puts = s.puts; right = rw s.header right }

-- ---- a call and a command, by what it is read to be

pub as_called : (h : Header) (S I : List ℕ) (h' : Header) (S' I' text : List ℕ) {a b : Call} → a ≡ b → Calling h S I b h' S' I' text → Calling h S I a h' S' I' text
as_called h S I h' S' I' text e c = rw e c

pub as_read : (h : Header) (S I : List ℕ) {a b : Option Command} → a ≡ b → {out : List ℕ} {at : ℕ} {r : Stepped} {S' I' out' : List ℕ}
    → Steps (Doing h S I b) out at r S' I' out' → Steps (Doing h S I a) out at r S' I' out'
as_read h S I e s = record { text = s.text; puts = s.puts; right = rw e s.right }

module _ (asked : ℕ → ℕ → Call) where
  pub on_id_lem : {i : Option Id} {id : Id} → i ≡ Some id → on_id asked i ≡ asked id.row id.generation
  unfolding on_id
  on_id_lem e = ap (on_id asked) e

  pub on_none : {i : Option Id} → i ≡ None → on_id asked i ≡ NoSuchId
  unfolding on_id
  on_none e = ap (on_id asked) e

-- ---- a line that is no command

pub unreadable : (h : Header) (S I : List ℕ) → Doing h S I None h S I (text_of (answer.No refusal.NotReadable))
unfolding Doing Promise Asks step step_in mapped Leaves header_kept is_create outcome_text
unreadable h S I = passes tt (record { says = refl; leaves = unchanged })

-- ---- an id that no item can have: the audit decides

module _ (h : Header) (S I : List ℕ) {test : Bool} (d : Decides test (Passes h S I)) where
  pub outside_3 : not test ≡ true → Calling h S I NoSuchId h S I (text_of (answer.No refusal.Audit))
  unfolding Calling Asks step_without is_create outcome_text
  outside_3 e = fails_first NoSuchId (Texts (text_of (answer.No refusal.Audit))) h S I d e refl refl refl

  pub outside_8 : not test ≡ false → Calling h S I NoSuchId h S I (text_of (answer.No refusal.NoSuchItem))
  unfolding Calling Asks step_in is_create outcome_text
  outside_8 e = refuses NoSuchId (Texts (text_of (answer.No refusal.NoSuchItem))) h S I d e 8 (λ p. refl) refl refl
