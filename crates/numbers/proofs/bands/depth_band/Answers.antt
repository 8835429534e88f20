use Rattle.std.specs.Prelude.{◌≡◌}
use Rattle.numbers.specs.Library.{sym, ◌∙◌, arith}
use Rattle.numbers.proofs.BandTable.{bands, reached, passed, band_rule, last_band}
use Rattle.numbers.proofs.bands.depth_band.Goals as goal

pub loop-i-init : goal.loop-i-init
loop-i-init c = band_rule _

pub returns-then-depth-from : goal.returns-then-depth-from
returns-then-depth-from c = sym (reached bands c.args.depth c.loop-i.i (omega arith) (omega arith)) ∙ c.loop-i.invariant

pub loop-i-preserved : goal.loop-i-preserved
loop-i-preserved c = sym (passed bands c.args.depth c.loop-i.i (omega arith) (omega arith)) ∙ c.loop-i.invariant

pub returns : goal.returns
returns c = let three : c.loop-i.i ≡ 3 = omega arith in
    sym (last_band c.args.depth) ∙ (rw three at c.loop-i.invariant)
