-- What the exported functions say to a host. Assumes nothing.
use Rattle.std.specs.Prelude.{◌≡◌, Result}
use Rattle.numbers.specs.Library.{ℕ, ap, sym, ◌∙◌, Bool, List, ℤ}
use Rattle.numbers.specs.declared.refusal.Refusal.{Refusal}
use Rattle.rows.specs.declared.live.Live.{Live}
use Rattle.audit.specs.Verdicts.{Exact, one_verdict}
use Rattle.audit.specs.declared.Verdict.{Verdict}
use Rattle.audit.specs.declared.Verdict.TheVariants.{Passes, Rule1, Rule2, Rule3, Rules5To7}
use Rattle.promises.specs.Prelude.{Creates, LooksUp, TellsOccupied, TellsFreeSpace, TellsSize, TellsEmpty, Lists}
use Rattle.promises.specs.declared.{answers.Answered.Answered, answers.Sides.Sides}
use Rattle.image_promises.specs.Promises.{Saves, Loads}
use Rattle.batch_rules.specs.Batch.{Batches}
use Rattle.hosts.specs.Values.{header_of, host_header}
use Rattle.hosts.specs.Told.{reply_told, created_told, grant_told, count_told, area_told, extent_told, vacancy_told, saved_told, batch_told}
use Rattle.hosts.specs.declared.{values.HostCreated.HostCreated, values.HostGrant.HostGrant, values.HostCount.HostCount, values.HostArea.HostArea}
use Rattle.hosts.specs.declared.{values.HostExtent.HostExtent, values.HostVacancy.HostVacancy, values.HostSaved.HostSaved, values.HostLoaded.HostLoaded, values.HostBatched.HostBatched}
use Rattle.hosts.specs.declared.values.AtlasHeader.{AtlasHeader}
use Rattle.plytimber.specs.declared.AuditAnswer.{AuditAnswer}

-- answer 3, "audit fails", with the rule beside it
abbrev pub failing : ℕ → AuditAnswer
failing rule = record { answer = 3; rule = rule }

-- What a verdict is to a host: 0 is success. The rule is the first that fails; where it is one of 5 to 7, the number is 5.
abbrev pub answer_of : Verdict → AuditAnswer
answer_of Passes = record { answer = 0; rule = 0 }
answer_of Rule1 = failing 1
answer_of Rule2 = failing 2
answer_of Rule3 = failing 3
answer_of Rules5To7 = failing 5

-- the answer is that of the verdict that is true
pub record AuditSays (h : AtlasHeader) (S I : List ℕ) (r : AuditAnswer) : Type 0 where
  pub verdict : Verdict
  pub exact : Exact (header_of h) S I verdict
  pub answer : r ≡ answer_of verdict

-- one answer for any header and tables
pub one_answer : (h : AtlasHeader) (S I : List ℕ) (r q : AuditAnswer) → AuditSays h S I r → AuditSays h S I q → r ≡ q
one_answer h S I r q a b = a.answer ∙ ap answer_of (one_verdict (header_of h) S I _ _ a.exact b.exact) ∙ sym b.answer

-- ---- the other calls: the public call's promise, on a host's header, and its answer told

pub record CreatesHere (S I : List ℕ) (w height alignWidth alignHeight vertical columns : ℤ) (r : HostCreated) (S' I' : List ℕ) : Type 0 where
  pub said : Result ℕ Refusal
  pub header : AtlasHeader
  pub promise : Creates S I w height alignWidth alignHeight vertical columns (record { answer = said; header = header_of header }) S' I'
  pub told : r ≡ created_told said header

pub record LooksUpHere (h : AtlasHeader) (S I : List ℕ) (row generation : ℕ) (r : HostGrant) : Type 0 where
  pub said : Result Live Refusal
  pub promise : LooksUp (header_of h) S I row generation said
  pub told : r ≡ grant_told said

pub record ListsHere (h : AtlasHeader) (S I out : List ℕ) (r : HostCount) (out' : List ℕ) : Type 0 where
  pub said : Result ℕ Refusal
  pub promise : Lists (header_of h) S I out said out'
  pub told : r ≡ count_told said

pub record OccupiedHere (h : AtlasHeader) (S I : List ℕ) (r : HostArea) : Type 0 where
  pub said : Result ℕ Refusal
  pub promise : TellsOccupied (header_of h) S I said
  pub told : r ≡ area_told said

pub record FreeSpaceHere (h : AtlasHeader) (S I : List ℕ) (r : HostArea) : Type 0 where
  pub said : Result ℕ Refusal
  pub promise : TellsFreeSpace (header_of h) S I said
  pub told : r ≡ area_told said

pub record SizeHere (h : AtlasHeader) (S I : List ℕ) (r : HostExtent) : Type 0 where
  pub said : Result Sides Refusal
  pub promise : TellsSize (header_of h) S I said
  pub told : r ≡ extent_told said

pub record EmptyHere (h : AtlasHeader) (S I : List ℕ) (r : HostVacancy) : Type 0 where
  pub said : Result Bool Refusal
  pub promise : TellsEmpty (header_of h) S I said
  pub told : r ≡ vacancy_told said

-- ---- the saved form

pub record SavesHere (h : AtlasHeader) (S I out : List ℕ) (r : HostSaved) (out' : List ℕ) : Type 0 where
  pub said : Result ℕ Refusal
  pub promise : Saves (header_of h) S I out said out'
  pub told : r ≡ saved_told said

pub record LoadsHere (image S I : List ℕ) (r : HostLoaded) (S' I' : List ℕ) : Type 0 where
  pub said : Result (Unit {0}) Refusal
  pub promise : Loads image S I (record { answer = said; header = header_of r.header }) S' I'
  pub told : r.answer ≡ reply_told said

-- ---- a batch

pub record BatchesHere (h : AtlasHeader) (S I l out : List ℕ) (r : HostBatched) (S' I' out' : List ℕ) : Type 0 where
  pub said : Answered ℕ
  pub promise : Batches (header_of h) S I l out said S' I' out'
  pub told : r ≡ batch_told said.answer (host_header said.header)
