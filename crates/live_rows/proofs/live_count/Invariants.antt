-- `live_count`: those counted and those from here on are all.
use Rattle.std.specs.Prelude.{◌≡◌, ◌-◌, ◌+◌, ◌≤◌}
use Rattle.live_rows.specs.Live.{live_count_from}
use Rattle.live_rows.proofs.live_count.Given as goal

-- those counted and those from here on are all; no more are counted than were looked at
abbrev pub invariant-loop-row : goal.invariant-loop-row
invariant-loop-row l = (l.count ≤ l.row) × (live_count_from l.items 0 l.used ≡ l.count + live_count_from l.items l.row (l.used - l.row))
