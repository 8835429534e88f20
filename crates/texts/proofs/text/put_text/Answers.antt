use Rattle.std.specs.Prelude.{◌<◌}
use Rattle.numbers.specs.Library.{arith, add-one, length, take-suc}
use Rattle.texts.specs.Put.{put_then}
use Rattle.texts.proofs.text.put_text.Goals as goal

pub loop-byte-preserved : goal.loop-byte-preserved
loop-byte-preserved c =
    let l = c.loop-byte in
    let h : l.byte-index < length c.args.text.now = omega arith in
    rw (add-one l.byte-index, take-suc c.args.text.now l.byte-index 0 h) (put_then l.invariant c.put_byte-end.ensures)
