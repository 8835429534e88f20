-- `make_within`: 7 where either table has fewer than C rows, else a fresh atlas.
use Rattle.numbers.specs.Library.{arith}
use Rattle.numbers.specs.Prelude.{denied, allowed}
use Rattle.create.proofs.Cases.{few_shelves, few_items, made_fresh}
use Rattle.numbers.specs.Library.{ap, not}
use Rattle.create.proofs.make_within.Goals as goal

pub returns-then-not-has : goal.returns-then-not-has
returns-then-not-has c = few_shelves _ _ _ _ c.columns-n.ensures _ c.no_atlas.ensures (omega (arith, denied c.has.ensures (ap not c.if-not-has.true)))

pub returns-then-not-has-2 : goal.returns-then-not-has-2
returns-then-not-has-2 c = few_items _ _ _ _ c.columns-n.ensures _ c.no_atlas-then-not-has-2.ensures (omega (arith, denied c.has-2.ensures (ap not c.if-not-has-2.true)))

pub returns : goal.returns
returns c =
    made_fresh _ _ _ _ c.columns-n.ensures _ _ _ (allowed c.has.ensures (ap not c.if-not-has.false)) (allowed c.has-2.ensures (ap not c.if-not-has-2.false))
    c.fresh_header.ensures c.init.ensures.0 c.init.ensures.1
