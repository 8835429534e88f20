use Rattle.std.specs.Prelude.{◌≡◌}
use Rattle.numbers.specs.Library.{◌∙◌, arith, length, rules}
use Rattle.input.specs.Line.{kept, kept_short}
use Rattle.app.specs.Reads.{pending_none, pending_more, pending_handed, more_within}
use Rattle.app.proofs.reply.Goals as goal

pub loop-taken-init : goal.loop-taken-init
loop-taken-init g c = record {
  fed = pending_none (kept c.args.line.now) (kept_short c.args.line.now) _ _;
  within = search rules;
  room = search rules;
  size = search rules;
  few = search rules;
}

-- the answers are written, and the buffer is empty again
pub loop-taken-preserved-then-filled-gt-FULL : goal.loop-taken-preserved-then-filled-gt-FULL
loop-taken-preserved-then-filled-gt-FULL g c =
    let l = c.loop-taken in
    let size : length l.items ≡ 18432 = l.auto.items ∙ c.requires in
    let piece = c.args.piece.now in
    record {
      fed = pending_handed (pending_more piece l.taken c.feed_line-fed.result l.invariant.fed c.feed_line-fed.ensures size (omega arith));
      within = more_within piece l.taken c.feed_line-fed.result.taken l.invariant.within c.feed_line-fed.ensures.within;
      room = search rules;
      size = search rules;
      few = l.invariant.few;
    }

-- there is room for the next answer
pub loop-taken-preserved : goal.loop-taken-preserved
loop-taken-preserved g c =
    let l = c.loop-taken in
    let size : length l.items ≡ 18432 = l.auto.items ∙ c.requires in
    let piece = c.args.piece.now in
    record {
      fed = pending_more piece l.taken c.feed_line-fed.result l.invariant.fed c.feed_line-fed.ensures size (omega arith);
      within = more_within piece l.taken c.feed_line-fed.result.taken l.invariant.within c.feed_line-fed.ensures.within;
      room = search rules;
      size = search rules;
      few = l.invariant.few;
    }
