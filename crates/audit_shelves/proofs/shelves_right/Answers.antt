use Rattle.numbers.specs.Library.{arith}
use Rattle.audit_shelves.proofs.ShelfTurns.{at_top, next_column, same_column}
use Rattle.audit_shelves.proofs.shelves_right.Goals as goal
use Rattle.audit_shelves.proofs.shelves_right.Goals.{then-y-h, else-y-h}

pub loop-init : goal.loop-init
loop-init c = (at_top _ _ _ (omega arith), omega arith, omega arith)

pub loop-preserved : goal.loop-preserved
loop-preserved c =
    let o = c.shelf_right.ensures.sound c.if-not-shelf_right.false in
    elim c.if-y-h.branch [
      | then-y-h w ↦ (
        rw (w.column-is, w.y-is, w.under_empty-is) (next_column c.loop.invariant.0 c.if-cur.false _ c.get-s.ensures (omega arith) (omega arith) o w.if-y-h.true),
        omega (arith, c.loop.invariant.1),
        omega arith,
      )
      | else-y-h w ↦ (
        rw (w.column-is, w.y-is, w.under_empty-is) (same_column c.loop.invariant.0 c.if-cur.false _ c.get-s.ensures (omega arith) (omega arith) o w.if-y-h.false),
        omega (arith, c.loop.invariant.1),
        omega (arith, o.in_column),
      )
    ]
