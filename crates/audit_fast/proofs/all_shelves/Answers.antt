use Rattle.numbers.specs.Library.{◌∙◌, arith}
use native.Mathlib.Nat.{sub-zero}
use Rattle.chains.proofs.Prelude.{unended}
use Rattle.audit_shelves.proofs.Flags.{whole}
use Rattle.audit_shelves.proofs.ShelfTurns.{at_top, next_column, same_column}
use Rattle.audit_fast.proofs.FoundTurns.{found_begins, found_past, found_ended}
use Rattle.audit_fast.proofs.all_shelves.Goals as goal

pub loop-cur-init : goal.loop-cur-init
loop-cur-init c = (rw sub-zero at (at_top c.args.h c.args.shelves.now c.args.items.now (omega arith)), found_begins _ _ _ (omega arith), omega arith, omega arith)

pub loop-cur-preserved-then-y-h : goal.loop-cur-preserved-then-y-h
loop-cur-preserved-then-y-h c =
    let turn = c.loop-cur.invariant in
    let steps = c.if-fuel-eq0.false in
    let in_use = c.loop-cur-test.true in
    let found = found_past turn.1 (λ q. omega (arith, in_use, q)) (omega (arith, steps)) (omega (arith, turn.2)) _ c.there-s.ensures _ c.in_ok-w.ensures (omega (arith, c.there-s.type_inv)) in
    let placed = c.shelf_placed.ensures.sound c.if-not-shelf_placed.false in
    let shelf = whole placed c.in_ok-w.ensures.flagged in (
      next_column turn.0 (λ q. omega (arith, in_use, q)) _ c.there-s.ensures (omega (arith, steps)) in_use shelf c.if-y-h.true,
      found,
      omega (arith, turn.2, steps),
      omega arith,
    )

pub loop-cur-preserved : goal.loop-cur-preserved
loop-cur-preserved c =
    let turn = c.loop-cur.invariant in
    let steps = c.if-fuel-eq0.false in
    let in_use = c.loop-cur-test.true in
    let found = found_past turn.1 (λ q. omega (arith, in_use, q)) (omega (arith, steps)) (omega (arith, turn.2)) _ c.there-s.ensures _ c.in_ok-w.ensures (omega (arith, c.there-s.type_inv)) in
    let placed = c.shelf_placed.ensures.sound c.if-not-shelf_placed.false in
    let shelf = whole placed c.in_ok-w.ensures.flagged in (
      same_column turn.0 (λ q. omega (arith, in_use, q)) _ c.there-s.ensures (omega (arith, steps)) in_use shelf c.if-y-h.false,
      found,
      omega (arith, turn.2, steps),
      omega (arith, placed.in_column),
    )

pub returns : goal.returns
returns c =
    let turn = c.loop-cur.invariant in
    let stop = c.if-cur.false in
    found_ended turn.1 stop (unended turn.0.walk (omega arith) stop (c.if-column-columns.false ∙ c.columns.ensures, c.if-y-ne0.false))
