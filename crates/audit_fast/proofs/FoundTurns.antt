-- One turn over the shelves, with all that the fast walk finds of each. Assumes nothing.
use Rattle.std.specs.Prelude.{◌≡◌, ◌≢◌, ◌+◌, ◌-◌, ◌*◌, ◌%◌, ◌^◌, ◌≤◌}
use Rattle.numbers.specs.Library.{sym, ap, ◌∙◌, List, ℕ, arith, length}
use native.Mathlib.Nat.{sub-zero}
use Rattle.numbers.specs.Prelude.{no_row}
use Rattle.rows.specs.Prelude.{get, shelves}
use Rattle.rows.specs.declared.{header.Header.Header, shelf.ShelfRow.ShelfRow}
use Rattle.chains.specs.Prelude.{Each}
use Rattle.chains.proofs.Prelude.{Eaching, each_begins, each_onward, each_ended}
use Rattle.rules.specs.Prelude.{shelf_next, shelves_met, items_met, free_met, Rule2, sum_over}
use Rattle.audit_counts.specs.Counts.{FreeListAt, all_free_met, rows_of}
use Rattle.audit_counts.specs.Fast.{loose, odd_of, Even}
use Rattle.audit_counts.proofs.Sums.{Summing, sums, summed_as, sum-ended, length-gather}
use Rattle.audit_counts.proofs.TotalTurns.{AtTotals, totals_begin, past_items, totals_ended}
use Rattle.fast_items.specs.declared.Walked.{Walked}
use Rattle.audit_fast.specs.Found.{ShelfFound, ShelvesFound}

-- the free list of the shelf in row `on`
abbrev ListOf : Header → List ℕ → List ℕ → ℕ → Type 0
ListOf h S I on = FreeListAt h I on (get shelves S on).first_unallocated.0

-- how far the widths of its items are past multiples of a power of two
abbrev odd_on : Header → List ℕ → List ℕ → ℕ → ℕ → ℕ
odd_on h S I k on = sum_over (odd_of k I) (items_met h S I on)

-- The walk in row `cur`: what was counted with what is still to be met makes the totals.
pub record AtFound (h : Header) (S I : List ℕ) (cur fuel count area widths : ℕ) : Type 0 where
  pub few : count ≤ h.used_items
  pub free : ℕ
  pub totals : AtTotals (loose h) S I cur fuel (record { shelves = h.used_shelves - fuel; items = count; free = free; stray = 0; area = area })
  pub lists : Eaching (ListOf h S I) (shelf_next S) (Each (ListOf h S I) (shelves_met h S)) cur fuel
  pub frees : Summing (λ on. length (free_met h S I on)) (shelf_next S) (sum_over (λ on. length (free_met h S I on)) (shelves_met h S)) cur fuel free
  pub even : (k : ℕ) → widths % 2 ^ k ≡ 0 → Summing (odd_on h S I k) (shelf_next S) (sum_over (odd_on h S I k) (shelves_met h S)) cur fuel 0

pub found_begins : (h : Header) (S I : List ℕ) → h.used_shelves ≤ no_row → AtFound h S I 0 h.used_shelves 0 0 0
unfolding shelves_met loose
found_begins h S I b =
    let none : h.used_shelves - h.used_shelves ≡ 0 = omega arith in
    record {
      few = omega arith;
      free = 0;
      totals = rw none (rw (sub-zero h.used_shelves) at (totals_begin (loose h) S I b));
      lists = each_begins;
      frees = sums;
      even = λ k e. sums;
    }

module _ {h : Header} {S I : List ℕ} {cur fuel count area widths : ℕ} (so_far : AtFound h S I cur fuel count area widths) (some-row : cur ≢ no_row) (steps-left : 1 ≤ fuel)
    (steps-most : fuel ≤ h.used_shelves) (s : ShelfRow) (row_is : s ≡ get shelves S cur) (w : Walked) where
  pub found_past : {under_empty : _} → ShelfFound h I cur s under_empty count widths w → s.height ≤ 65535
      → AtFound h S I s.next.0 (fuel - 1) w.count (area + (h.limits.shelf_width - w.gap) * s.height) w.widths
  unfolding loose free_met items_met rows_of Even
  found_past found small =
      let next_is : s.next.0 ≡ shelf_next S cur = ap (λ (v : ShelfRow). v.next.0) row_is in
      let one : (h.used_shelves - fuel) + 1 ≡ h.used_shelves - (fuel - 1) = omega arith in
      let list = found.list in
      let all : count + (w.count - count) ≡ w.count = omega (arith, found.walks.more) in
      record {
        few = found.walks.few;
        free = so_far.free + w.free;
        totals = rw (one, all) at (past_items so_far.totals some-row steps-left s row_is _ found.walks.tallied small {left = fuel - 1} (omega arith));
        lists = rw next_is (each_onward so_far.lists some-row steps-left (rw row_is at list.right));
        frees = summed_as so_far.frees some-row steps-left (sym list.length-is ∙ rw row_is) next_is;
        even = λ k e.
            let both = found.walks.even k e in
            summed_as (so_far.even k both.0) some-row steps-left (sym both.1 ∙ rw row_is) next_is;
      }

-- at the end
pub found_ended : {h : Header} {S I : List ℕ} {cur fuel count area widths : ℕ} → AtFound h S I cur fuel count area widths → cur ≡ no_row → Rule2 h S I
    → ShelvesFound h S I (record { shelves = h.used_shelves - fuel; items = count; area = area; widths = widths })
unfolding all_free_met
found_ended {h} {S} {I} at stop two =
    let all = totals_ended at.totals stop in
    record {
      shelves_right = two;
      items_right = all.0;
      few = at.few;
      free = at.free;
      counts = all.1;
      lists = each_ended at.lists stop;
      all_free = length-gather (free_met h S I) (shelves_met h S) ∙ sym (sum-ended at.frees stop);
      even = λ k e. sym (sum-ended (at.even k e) stop);
    }
