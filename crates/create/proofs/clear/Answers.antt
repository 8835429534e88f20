-- `clear`: its own 3, then a fresh atlas of the header's limits.
use Rattle.numbers.specs.Library.{refl}
use Rattle.create.proofs.Cases.{clear_3, cleared}
use Rattle.numbers.specs.Library.{ap, not}
use Rattle.create.proofs.clear.Goals as goal

pub returns-then-not-passes_for_clear : goal.returns-then-not-passes_for_clear
returns-then-not-passes_for_clear c = rw c.refused.ensures (clear_3 _ _ _ c.passes_for_clear.ensures (ap not c.if-not-passes_for_clear.true))

pub returns : goal.returns
returns c =
    cleared _ _ _ c.passes_for_clear.ensures (ap not c.if-not-passes_for_clear.false) _ _ _ _ _
    refl c.columns-n.ensures c.fresh_header.ensures c.init.ensures.0 c.init.ensures.1
