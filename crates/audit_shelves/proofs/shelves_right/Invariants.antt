-- `shelves_right` decides rule 2: the invariant says that it holds exactly when the rest of the chain is right.
use Rattle.std.specs.Prelude.{◌-◌, ◌≤◌}
use Rattle.audit_shelves.proofs.ShelfTurns.{AtShelf}
use Rattle.audit_shelves.proofs.shelves_right.Given as goal

abbrev pub invariant-loop : goal.invariant-loop
invariant-loop l =
    AtShelf l.h l.shelves l.items l.cur (l.h.used_shelves - l.counter) (record { prev = l.prev; column = l.column; y = l.y; under_empty = l.under_empty })
    × (l.column ≤ l.counter) × (l.y ≤ l.h.limits.height)
