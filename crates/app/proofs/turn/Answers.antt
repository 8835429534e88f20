-- `turn`: nothing was read, and the state is as it was; or the piece that was read is answered.
use Rattle.input.specs.Line.{kept, kept_short}
use Rattle.app.specs.Reads.{answered_none}
use Rattle.app.proofs.turn.Goals as goal

pub returns-in_default : goal.returns-in_default
returns-in_default g c = let line = c.args.line.now in record { bytes = _; answered = answered_none (kept line) (kept_short line) _ }
