-- The answers of the calls without the audit, as the benchmark's driver gets them. Assumes nothing.
use Rattle.std.specs.Prelude.{◌+◌, ◌*◌, ◌/◌, ◌%◌, ◌≡◌, Result}
use Rattle.numbers.specs.Library.{ℕ, subst, List, ℤ, length, get_or, set, arith}
use Rattle.rows.specs.Prelude.{each_all}
use Rattle.numbers.specs.declared.refusal.Refusal.{Refusal}
use Rattle.rows.specs.declared.{header.Header.Header, live.Live.Live}
use Rattle.hosts.specs.Values.{header_of}
use Rattle.hosts.specs.declared.values.AtlasHeader.{AtlasHeader}
use Rattle.promises.specs.Prelude.{Allocates, Releases, LooksUp, Lists}
use Rattle.promises.specs.declared.answers.Answered.{Answered}
use Rattle.hosts.specs.Told.{grant_told, reply_told, count_told}
use Rattle.hosts.specs.declared.{values.HostGrant.HostGrant, values.HostCount.HostCount}

-- the header in a host's 24 bytes, as twelve numbers: 10 and 11 are the low and the high half of the occupied area
abbrev pub header_in : List ℕ → Header
header_in n = record {
  limits = record {
    width = get_or n 0 0;
    height = get_or n 1 0;
    align_width = get_or n 2 0;
    align_height = get_or n 3 0;
    vertical = get_or n 4 0;
    shelf_width = get_or n 5 0;
  };
  used_shelves = get_or n 6 0;
  used_items = get_or n 7 0;
  free_items = record { 0 = get_or n 8 0 };
  free_shelves = record { 0 = get_or n 9 0 };
  occupied = get_or n 10 0 + get_or n 11 0 * 65536;
}

-- these numbers, with a header's in them: all but its limits
abbrev pub header_put : List ℕ → Header → List ℕ
header_put n h =
    set (set (set (set (set (set n 6 h.used_shelves) 7 h.used_items) 8 h.free_items.0) 9 h.free_shelves.0) 10 (h.occupied % 65536)) 11 (h.occupied / 65536)

-- a header goes there and is read there, if its limits are those that stand there
pub in_put : (n : List ℕ) (h : Header) → length n ≡ 12 → (header_in n).limits ≡ h.limits → header_in (header_put n h) ≡ h
in_put n h long same =
    let halves : h.occupied % 65536 + h.occupied / 65536 * 65536 ≡ h.occupied = omega arith in
    subst (λ (m : List ℕ). header_in (header_put m h) ≡ h) (each_all 12 n long) (rw (same, halves))

-- each call keeps the public call's promise, and tells its answer
pub record AllocatesSo (n S I : List ℕ) (w height : ℤ) (r : HostGrant) (n' S' I' : List ℕ) : Type 0 where
  pub said : Answered Live
  pub promise : Allocates (header_in n) S I w height said S' I'
  pub told : r ≡ grant_told said.answer
  pub header : n' ≡ header_put n said.header

pub record ReleasesSo (n S I : List ℕ) (row generation : ℕ) (r : ℕ) (n' S' I' : List ℕ) : Type 0 where
  pub said : Answered (Unit {0})
  pub promise : Releases (header_in n) S I row generation said S' I'
  pub told : r ≡ reply_told said.answer
  pub header : n' ≡ header_put n said.header

pub record LooksUpSo (h : AtlasHeader) (S I : List ℕ) (row generation : ℕ) (r : HostGrant) : Type 0 where
  pub said : Result Live Refusal
  pub promise : LooksUp (header_of h) S I row generation said
  pub told : r ≡ grant_told said

pub record ListsSo (h : AtlasHeader) (S I out : List ℕ) (r : HostCount) (out' : List ℕ) : Type 0 where
  pub said : Result ℕ Refusal
  pub promise : Lists (header_of h) S I out said out'
  pub told : r ≡ count_told said
