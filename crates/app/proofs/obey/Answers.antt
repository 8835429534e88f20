use Rattle.input.specs.Line.{kept, kept_short}
use Rattle.app.specs.Reads.{answered_none, reads_then, obeyed}
use Rattle.app.proofs.obey.Goals as goal

pub loop-init : goal.loop-init
loop-init g c = let line = c.new-line.result in record { bytes = _; answered = answered_none (kept line) (kept_short line) _ }

pub loop-preserved : goal.loop-preserved
loop-preserved g c = reads_then c.loop.invariant c.turn.ensures

pub returns-after-loop : goal.returns-after-loop
returns-after-loop g c = obeyed _ _ c.new-line.ensures c.no_header-header.ensures c.loop.invariant

pub returns-then-not-turn : goal.returns-then-not-turn
returns-then-not-turn g c = obeyed _ _ c.new-line.ensures c.no_header-header.ensures (reads_then c.loop.invariant c.turn.ensures)
