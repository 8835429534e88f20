use Rattle.std.specs.Prelude.{◌≡◌, ◌-◌, ◌+◌, ◌<◌}
use Rattle.numbers.specs.Library.{arith}
use Rattle.live_rows.specs.Live.{live_count, one_few, count_start, count_none, count_step}
use Rattle.live_rows.proofs.live_count.Goals as goal

pub loop-row-init : goal.loop-row-init
loop-row-init c = (omega arith, count_start _ _)

pub overflow_add-count : goal.overflow_add-count
overflow_add-count c = omega (arith, one_few _ _ _ c.live_one-count.ensures)

pub loop-row-preserved : goal.loop-row-preserved
loop-row-preserved c =
    let l = c.loop-row in
    let used = c.args.used in
    let h : 0 < used - l.row = omega arith in
    let e : used - (l.row + 1) ≡ used - l.row - 1 = omega arith in (
      omega (arith, one_few _ _ _ c.live_one-count.ensures),
      rw (l.invariant.1, count_step _ _ _ h, e, ← c.live_one-count.ensures) (omega arith),
    )

pub returns : goal.returns
unfolding live_count
returns c =
    let l = c.loop-row in
    let e : c.args.used - l.row ≡ 0 = omega arith in
    omega (arith, rw (e, count_none) at l.invariant.1)
