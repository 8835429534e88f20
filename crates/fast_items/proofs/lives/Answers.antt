use Rattle.std.specs.Prelude.{◌≤◌}
use Rattle.numbers.specs.Library.{ap, arith}
use Rattle.audit_counts.specs.Fast.{none}
use Rattle.audit_counts.proofs.FastTurns.{one_more}
use Rattle.fast_items.specs.declared.Passed.{Passed}
use Rattle.fast_items.proofs.Places.{near_fits, few_rows, kept_past, passable}
use Rattle.fast_items.proofs.lives.Goals as goal

pub loop-p-init : goal.loop-p-init
loop-p-init c = (λ b. none, c.requires.1, omega arith, omega arith)

pub past-p-requires : goal.past-p-requires
past-p-requires c = passable (few_rows _ c.requires.0) c.loop-p.invariant.1 c.loop-p-test.true _ c.item_from-i.ensures (c.fits.ensures.sound c.if-not-fits.false)

-- one more was passed
pub loop-p-smaller : goal.loop-p-smaller
loop-p-smaller c =
    let near = c.fits.ensures.sound c.if-not-fits.false in
    omega (arith, ap (λ (r : Passed). r.count) c.past-p.ensures, (passable (few_rows _ c.requires.0) c.loop-p.invariant.1 c.loop-p-test.true _ c.item_from-i.ensures near).2)

pub loop-p-preserved : goal.loop-p-preserved
loop-p-preserved c =
    let turn = c.loop-p.invariant in
    let in_use = c.loop-p-test.true in
    let live = c.live_of.ensures.sound c.if-not-live_of.false in
    let near = c.fits.ensures.sound c.if-not-fits.false in
    rw c.past-p.ensures (
      λ b. let low : c.loop-p.p.x ≤ 65535 = omega (arith, b) in one_more (turn.0 low) in_use _ c.item_from-i.ensures live (near_fits low near) (omega (arith, c.item_from-i.type_inv)),
      kept_past (few_rows _ c.requires.0) turn.1 in_use _ c.item_from-i.ensures near (omega (arith, c.item_from-i.type_inv)),
      omega (arith, turn.2),
      omega (arith, turn.3),
    )
