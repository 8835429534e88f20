-- `init`: the first k rows of both tables are written, and no others.
use Rattle.std.specs.Prelude.{◌≡◌}
use Rattle.rows.specs.Prelude.{items, shelves}
use Rattle.init.specs.Init.{write_rows, fresh_shelf_row, fresh_item_row}
use Rattle.init.proofs.init.Given as goal

-- the first k rows of both tables are written
abbrev pub invariant-loop-k : goal.invariant-loop-k
invariant-loop-k l = (l.shelves ≡ write_rows shelves (fresh_shelf_row l.limits l.n) l.k l.initial.shelves) × (l.items ≡ write_rows items (fresh_item_row l.limits) l.k l.initial.items)
