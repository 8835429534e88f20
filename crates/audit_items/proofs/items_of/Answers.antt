use Rattle.numbers.specs.Library.{arith}
use Rattle.numbers.specs.Prelude.{allowed}
use Rattle.audit_counts.proofs.ItemTurns.{shelf_begins, shelf_ended, past_free}
use Rattle.audit_counts.proofs.ItemTurns.{past_live}
use Rattle.numbers.specs.Library.{ap, not}
use Rattle.audit_items.proofs.items_of.Goals as goal

pub loop-cur-init : goal.loop-cur-init
loop-cur-init c = shelf_begins _ _ _ _ (omega arith) (omega arith)

pub loop-cur-preserved-then-not-unlinked : goal.loop-cur-preserved-then-not-unlinked
loop-cur-preserved-then-not-unlinked c =
    let turn = c.loop-cur in
    let in_use = c.loop-cur-test.true in
    let read = c.there-i in
    let right = allowed c.item_right.ensures (ap not c.if-not-item_right.false) in
    past_live turn.invariant in_use _ read.ensures right (omega (arith, read.type_inv)) _ c.if-i-eq1.true (omega (arith, c.strayed-stray.ensures))

pub loop-cur-preserved-else-not-unlinked : goal.loop-cur-preserved-else-not-unlinked
loop-cur-preserved-else-not-unlinked c =
    let turn = c.loop-cur in
    let in_use = c.loop-cur-test.true in
    let read = c.there-i in
    let right = allowed c.item_right.ensures (ap not c.if-not-item_right.false) in
    let none = allowed c.unlinked.ensures (ap not c.if-not-unlinked.false) in
    past_live turn.invariant in_use _ read.ensures right (omega (arith, read.type_inv)) _ c.if-i-eq1.true (omega (arith, none))

pub loop-cur-preserved : goal.loop-cur-preserved
loop-cur-preserved c =
    let turn = c.loop-cur in
    let in_use = c.loop-cur-test.true in
    let read = c.there-i in
    let right = allowed c.item_right.ensures (ap not c.if-not-item_right.false) in
    past_free turn.invariant in_use _ read.ensures right (omega (arith, read.type_inv)) c.if-i-eq1.false c.if-edge-x.false

pub returns : goal.returns
returns c = shelf_ended c.loop-cur.invariant c.if-cur.false (omega arith) c.if-x-s.false
