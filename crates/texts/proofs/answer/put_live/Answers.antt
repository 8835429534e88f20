use Rattle.numbers.specs.Library.{arith}
use Rattle.texts.specs.Put.{put_then}
use Rattle.texts.specs.Text.{line}
use Rattle.texts.specs.Answer.{live_line}
use Rattle.texts.proofs.Short.{live_short}
use Rattle.texts.proofs.answer.put_live.Goals as goal

pub returns : goal.returns
unfolding line live_line
returns c = record {
  puts = put_then c.put_number-a.ensures c.put_line.ensures;
  live_len_bound = live_short c.args.live
      (record { row = omega arith; generation = omega arith; x0 = omega arith; y0 = omega arith; x1 = omega arith; y1 = omega arith });
}
