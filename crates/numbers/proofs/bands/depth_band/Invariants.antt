-- `depth_band`: a walk along the table of bands that says at each entry what the whole table says.
use Rattle.std.specs.Prelude.{◌≡◌}
use Rattle.numbers.specs.Library.{drop}
use Rattle.numbers.specs.Prelude.{depth_band}
use Rattle.numbers.proofs.BandTable.{band_from, bands}
use Rattle.numbers.proofs.bands.depth_band.Given as goal

-- the band from here on is the band of the depth
abbrev pub invariant-loop-i : goal.invariant-loop-i
invariant-loop-i l = band_from (drop l.i bands) l.i l.depth ≡ depth_band l.depth
