use Rattle.input.specs.Line.{kept, kept_short}
use Rattle.app.specs.Reads.{answered_none}
use Rattle.app.proofs.finish.Goals as goal

pub returns-then-is_empty : goal.returns-then-is_empty
returns-then-is_empty g c = let line = c.args.line.now in record { bytes = _; answered = answered_none (kept line) (kept_short line) _ }
