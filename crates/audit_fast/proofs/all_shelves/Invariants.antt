-- `all_shelves`.
use Rattle.std.specs.Prelude.{◌+◌, ◌≤◌}
use Rattle.audit_shelves.proofs.ShelfTurns.{AtShelf}
use Rattle.audit_fast.proofs.FoundTurns.{AtFound}
use Rattle.audit_fast.proofs.all_shelves.Given as goal

abbrev pub invariant-loop-cur : goal.invariant-loop-cur
invariant-loop-cur l =
    AtShelf l.h l.shelves l.items l.cur l.fuel (record { prev = l.prev; column = l.column; y = l.y; under_empty = l.under_empty })
    × AtFound l.h l.shelves l.items l.cur l.fuel l.count l.area l.widths × (l.column + l.fuel ≤ l.h.used_shelves) × (l.y ≤ l.h.limits.height)

abbrev pub decreases-loop-cur : goal.decreases-loop-cur
decreases-loop-cur l = l.fuel
