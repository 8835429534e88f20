use Rattle.std.specs.Prelude.{◌<◌}
use Rattle.numbers.specs.Library.{arith, length}
use Rattle.texts.specs.Put.{put_nothing, put_then}
use Rattle.texts.specs.Text.{spaced}
use Rattle.texts.proofs.Digits.{spaced_more}
use Rattle.texts.proofs.text.put_spaced.Goals as goal

pub loop-number-init : goal.loop-number-init
unfolding spaced
loop-number-init c = put_nothing _ _

pub loop-number-preserved : goal.loop-number-preserved
loop-number-preserved c =
    let l = c.loop-number in
    let numbers = c.args.numbers.now in
    let h : l.number-index < length numbers = omega arith in
    rw (spaced_more numbers l.number-index h) (put_then (put_then l.invariant c.put_byte-end.ensures) c.put_number-end.ensures)
