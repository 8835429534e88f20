-- Each answer as a host is told it: "0 is success", "a refusal returns zeros besides its number". And what the calls promise of a host's header. Assumes nothing.
use Rattle.std.specs.Prelude.{◌≡◌, Result, Ok, Err}
use Rattle.numbers.specs.Library.{ℕ, Bool, List, ℤ}
use Rattle.numbers.specs.Prelude.{pick, refusal_number}
use Rattle.numbers.specs.declared.refusal.Refusal.{Refusal}
use Rattle.rows.specs.declared.live.Live.{Live}
use Rattle.promises.specs.Prelude.{Allocates, Releases, Clears}
use Rattle.promises.specs.declared.answers.Sides.{Sides}
use Rattle.hosts.specs.declared.{values.AtlasHeader.AtlasHeader, values.HostGrant.HostGrant, values.HostCount.HostCount, values.HostArea.HostArea, values.HostCreated.HostCreated}
use Rattle.hosts.specs.declared.{values.HostExtent.HostExtent, values.HostVacancy.HostVacancy, values.HostSaved.HostSaved, values.HostBatched.HostBatched}
use Rattle.hosts.specs.Values.{header_of}

abbrev pub grant_told : Result Live Refusal → HostGrant
grant_told (Ok l) = record { answer = 0; row = l.row; generation = l.generation; x0 = l.x0; y0 = l.y0; x1 = l.x1; y1 = l.y1 }
grant_told (Err e) = record { answer = refusal_number e; row = 0; generation = 0; x0 = 0; y0 = 0; x1 = 0; y1 = 0 }

abbrev pub reply_told : Result (Unit {0}) Refusal → ℕ
reply_told (Ok t) = 0
reply_told (Err e) = refusal_number e

abbrev pub count_told : Result ℕ Refusal → HostCount
count_told (Ok n) = record { answer = 0; count = n }
count_told (Err e) = record { answer = refusal_number e; count = 0 }

abbrev pub area_told : Result ℕ Refusal → HostArea
area_told (Ok total) = record { answer = 0; area = total }
area_told (Err e) = record { answer = refusal_number e; area = 0 }

abbrev pub extent_told : Result Sides Refusal → HostExtent
extent_told (Ok s) = record { answer = 0; width = s.width; height = s.height }
extent_told (Err e) = record { answer = refusal_number e; width = 0; height = 0 }

abbrev pub vacancy_told : Result Bool Refusal → HostVacancy
vacancy_told (Ok b) = record { answer = 0; vacant = pick b 1 0 }
vacancy_told (Err e) = record { answer = refusal_number e; vacant = 0 }

abbrev pub saved_told : Result ℕ Refusal → HostSaved
saved_told (Ok n) = record { answer = 0; length = n }
saved_told (Err e) = record { answer = refusal_number e; length = 0 }

-- a refused create has the all-zero header beside it
abbrev pub created_told : Result ℕ Refusal → AtlasHeader → HostCreated
created_told (Ok columns) header = record { answer = 0; columns = columns; header = header }
created_told (Err e) header = record { answer = refusal_number e; columns = 0; header = header }

-- of a batch, how many requests are answered
abbrev pub batch_told : Result ℕ Refusal → AtlasHeader → HostBatched
batch_told (Ok served) header = record { answer = 0; count = served; header = header }
batch_told (Err e) header = record { answer = refusal_number e; count = 0; header = header }

-- ---- the calls that change an atlas: the public call's promise, of a host's header before and after, and its answer told

pub record AllocatesHere (h : AtlasHeader) (S I : List ℕ) (w height : ℤ) (r : HostGrant) (h' : AtlasHeader) (S' I' : List ℕ) : Type 0 where
  pub said : Result Live Refusal
  pub promise : Allocates (header_of h) S I w height (record { answer = said; header = header_of h' }) S' I'
  pub told : r ≡ grant_told said

pub record ReleasesHere (h : AtlasHeader) (S I : List ℕ) (row generation : ℕ) (r : ℕ) (h' : AtlasHeader) (S' I' : List ℕ) : Type 0 where
  pub said : Result (Unit {0}) Refusal
  pub promise : Releases (header_of h) S I row generation (record { answer = said; header = header_of h' }) S' I'
  pub told : r ≡ reply_told said

pub record ClearsHere (h : AtlasHeader) (S I : List ℕ) (r : ℕ) (h' : AtlasHeader) (S' I' : List ℕ) : Type 0 where
  pub said : Result (Unit {0}) Refusal
  pub promise : Clears (header_of h) S I (record { answer = said; header = header_of h' }) S' I'
  pub told : r ≡ reply_told said
