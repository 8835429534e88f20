use Rattle.numbers.specs.Library.{arith, refl, ◌∙◌, sym, take, length-take, take_all}
use Rattle.input.specs.Lines.{ended, left}
use Rattle.input.specs.Kept.{short, ended_short}
use Rattle.input.proofs.Bytes.{newline_ends, newline_left, byte_ends, byte_left}
use Rattle.input.proofs.take_line.Goals as goal

pub loop-before-init : goal.loop-before-init
unfolding ended_short ended left short
loop-before-init c =
    let line = c.args.line.now in
    (record { none = refl; formed = take_all 81 (take c.args.have0 line) (omega (arith, length-take c.args.have0 line)) }, c.requires.have0_bound, c.requires.line_len)

-- a newline
pub returns-then-byte-eq10-clause-takes : goal.returns-then-byte-eq10-clause-takes
returns-then-byte-eq10-clause-takes c =
    let turn = c.loop-before in
    let (so_far, room, size) = turn.invariant in (
      record {
        ends = newline_ends _ c.args.piece.now turn.before (take turn.have turn.line) c.loop-before-test.true so_far.none so_far.formed c.if-byte-eq10.true;
        nothing = newline_left _ c.args.piece.now turn.before (take turn.have turn.line) c.loop-before-test.true so_far.none so_far.formed c.if-byte-eq10.true;
      },
      omega arith,
      omega arith,
    )

-- another byte
pub loop-before-preserved : goal.loop-before-preserved
loop-before-preserved c =
    let turn = c.loop-before in
    let (so_far, room, size) = turn.invariant in (
      record {
        none = byte_ends _ c.args.piece.now turn.before (take turn.have turn.line) c.loop-before-test.true so_far.none so_far.formed c.if-byte-eq10.false;
        formed = byte_left _ c.args.piece.now turn.before (take turn.have turn.line) c.loop-before-test.true so_far.none so_far.formed c.if-byte-eq10.false
            ∙ sym c.keep-have.ensures.holds;
      },
      c.keep-have.ensures.room,
      omega arith,
    )
