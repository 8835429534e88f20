use Rattle.numbers.specs.Library.{arith}
use Rattle.numbers.specs.Prelude.{four_bands}
use Rattle.numbers.proofs.BandTable.{step_rule}
use Rattle.numbers.proofs.bands.depth_step.Goals as goal

pub offset_bounds-band : goal.offset_bounds-band
offset_bounds-band c = record { fits = omega (arith, four_bands c.args.depth) }

pub bounds-band : goal.bounds-band
bounds-band c = omega (arith, four_bands c.args.depth)

pub returns : goal.returns
returns c = rw c.depth_band-band.ensures (step_rule _)
