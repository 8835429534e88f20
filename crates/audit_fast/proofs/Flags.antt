-- The flag of a shelf by the width of its free items. Assumes nothing.
use Rattle.std.specs.Prelude.{◌≡◌, ◌≤◌}
use Rattle.numbers.specs.Library.{List, ℕ, arith, eqb}
use Rattle.rows.specs.Prelude.{items, item_capacity, rows_few}
use Rattle.rows.specs.declared.{header.Header.Header, shelf.ShelfRow.ShelfRow}
use Rattle.rules.specs.Prelude.{flag, one_free_of}
use Rattle.audit_counts.specs.Counts.{rows_of}
use Rattle.audit_counts.specs.Fast.{loose}
use Rattle.audit_counts.proofs.Empty.{flag_by_gap}
use Rattle.fast_items.specs.declared.Walked.{Walked}
use Rattle.fast_items.specs.Walks.{Walks}

pub flag_is_due : (h : Header) (I : List ℕ) (on : ℕ) (s : ShelfRow) (met all : ℕ) (w : Walked) → 1 ≤ h.limits.shelf_width → h.used_items ≤ item_capacity I → Walks h I on s met all w
    → flag (one_free_of h I s.first_item.0) ≡ flag (eqb w.gap h.limits.shelf_width)
unfolding loose one_free_of rows_of
flag_is_due h I on s met all w wide few found =
    let live = found.tallied.1.counts.live in
    flag_by_gap (loose h) I on s wide (omega (arith, few, rows_few items I)) found.tallied.0 w.gap (omega (arith, live, found.gap_most))
