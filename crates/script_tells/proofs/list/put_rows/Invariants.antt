-- `put_rows`: the lines of the rows so far are put, and their items counted; a row has one at most, so the count is no more than the rows.
use Rattle.std.specs.Prelude.{◌≤◌}
use Rattle.live_rows.specs.Live.{rows_listed}
use Rattle.script_tells.specs.Listing.{Listed}
use Rattle.script_tells.proofs.list.put_rows.Given as goal

abbrev pub invariant-loop-row : goal.invariant-loop-row
invariant-loop-row l =
    Listed (rows_listed l.h l.shelves l.items l.row) l.initial.out l.at (record { count = l.count; at = l.end }) l.out × (l.count ≤ l.row) × (l.row ≤ l.h.used_items)
