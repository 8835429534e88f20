-- What the fast walk has found where it says yes: of one shelf, and of all of them. Assumes nothing.
use Rattle.std.specs.Prelude.{◌+◌, ◌-◌, ◌%◌, ◌^◌, ◌≤◌, ◌<◌, ◌≡◌, ◌⊎◌}
use Rattle.numbers.specs.Library.{ℕ, Bool, true, List, length}
use Rattle.std.specs.Int.Bits.{bit_and}
use Rattle.numbers.specs.Prelude.{along_step}
use Rattle.rows.specs.Prelude.{get, shelves, items}
use Rattle.rows.specs.declared.{header.Header.Header, shelf.ShelfRow.ShelfRow}
use Rattle.chains.specs.Prelude.{Each, rows_from}
use Rattle.rules.specs.Prelude.{flag, one_free_of, free_next, shelves_met, items_met, freed_shelves_met, freed_items_met, Rule2, Rule3, sum_over}
use Rattle.audit_counts.specs.Counts.{FreeListAt, all_free_met, AllCounts, FreedShelves, FreedItems}
use Rattle.audit_counts.specs.Fast.{loose, odd_of}
use Rattle.audit_shelves.specs.Placed.{FlagRight}
use Rattle.fast_items.specs.declared.Walked.{Walked}
use Rattle.fast_items.specs.Walks.{Walks}
use Rattle.audit_fast.specs.declared.Found.{Found}

-- the free list of the shelf s in row `on`: it is right, and has so many rows
pub record ListFound (h : Header) (I : List ℕ) (on : ℕ) (s : ShelfRow) (free : ℕ) : Type 0 where
  pub right : FreeListAt h I on s.first_unallocated.0
  pub length-is : length (rows_from (free_next I) h.used_items s.first_unallocated.0) ≡ free

pub record ShelfFound (h : Header) (I : List ℕ) (on : ℕ) (s : ShelfRow) (under_empty : Bool) (met all : ℕ) (w : Walked) : Type 0 where
  pub walks : Walks h I on s met all w
  pub list : ListFound h I on s w.free
  pub flagged : FlagRight s (flag (one_free_of h I s.first_item.0)) under_empty

-- all that is asked of the shelves, but for the alignment of widths, and what was counted
pub record ShelvesFound (h : Header) (S I : List ℕ) (f : Found) : Type 0 where
  pub shelves_right : Rule2 h S I
  pub items_right : Rule3 (loose h) S I
  pub free : ℕ
  pub few : f.items ≤ h.used_items
  pub counts : AllCounts (loose h) S I (record { shelves = f.shelves; items = f.items; free = free; stray = 0; area = f.area })
  pub lists : Each (λ on. FreeListAt h I on (get shelves S on).first_unallocated.0) (shelves_met h S)
  pub all_free : length (all_free_met h S I) ≡ free
  pub even : (k : ℕ) → f.widths % 2 ^ k ≡ 0 → sum_over (λ on. sum_over (odd_of k I) (items_met h S I on)) (shelves_met h S) ≡ 0

-- the width of each used item row is a multiple of the step
abbrev pub EachAligned : List ℕ → (used step : ℕ) → Type 0
EachAligned I used step = (row : ℕ) → row < used → (get items I row).width % step ≡ 0

-- Either the along alignment is a power of two, which divides the widths that were or-ed, or it divides each width.
abbrev pub WidthsFound : Header → List ℕ → (widths : ℕ) → Type 0
WidthsFound h I widths =
    let step = along_step h.limits in
    ((bit_and step (step - 1) ≡ 0) × (widths % step ≡ 0)) ⊎ EachAligned I h.used_items step

-- the freed rows are right, and with those on the chains they are all the used ones
pub record FreedFound (h : Header) (S I : List ℕ) (f : Found) : Type 0 where
  pub freed_shelves_lem : FreedShelves h S
  pub all_shelves : f.shelves + length (freed_shelves_met h S) ≡ h.used_shelves
  pub freed_items_lem : FreedItems h I
  pub all_items : f.items + length (freed_items_met h I) ≡ h.used_items

-- a test that can say yes: where it does, A holds
pub record SaysYes (test : Bool) (A : Type 0) : Type 0 where
  pub sound : test ≡ true → A
