use Rattle.numbers.specs.Library.{refl}
use Rattle.numbers.specs.Prelude.{stop, go_on, options_good}
use Rattle.numbers.specs.Library.{ap, not}
use Rattle.limit_checks.proofs.options_good.Goals as goal

pub returns-then-not-one_to : goal.returns-then-not-one_to
unfolding options_good
returns-then-not-one_to c = stop _ _ c.one_to.ensures (ap not c.if-not-one_to.true)

pub returns-then-not-one_to-2 : goal.returns-then-not-one_to-2
unfolding options_good
returns-then-not-one_to-2 c = go_on _ _ c.one_to.ensures (ap not c.if-not-one_to.false) (stop _ _ c.one_to-2.ensures (ap not c.if-not-one_to-2.true))

pub returns : goal.returns
unfolding options_good
returns c = go_on _ _ c.one_to.ensures (ap not c.if-not-one_to.false) (go_on _ _ c.one_to-2.ensures (ap not c.if-not-one_to-2.false) refl)
