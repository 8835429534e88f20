use Rattle.numbers.specs.Library.{arith}
use Rattle.live_rows.specs.Live.{live_one}
use Rattle.live_rows.proofs.live_one.Goals as goal

pub returns : goal.returns
unfolding live_one
returns c = rw (← c.there-v.ensures) (grind (arith, c.from.ensures))
