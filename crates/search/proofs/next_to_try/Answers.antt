use Rattle.numbers.specs.Library.{arith}
use Rattle.search.specs.Search.{start}
use Rattle.search.proofs.ToTry.{none_left, row_there, shorter, to_try, onward}
use Rattle.search.proofs.Tests.{some, none}
use Rattle.numbers.specs.Library.{ap, not}
use Rattle.search.proofs.next_to_try.Goals as goal

pub loop-at-init : goal.loop-at-init
loop-at-init c = record { ends = c.requires; passed = start }

pub there-s-requires : goal.there-s-requires
there-s-requires c = row_there c.loop-at.invariant (some c.is_none.ensures (ap not c.loop-at-test.true))

pub returns-then-not-is_skipped : goal.returns-then-not-is_skipped
returns-then-not-is_skipped c =
    to_try c.loop-at.invariant (some c.is_none.ensures (ap not c.loop-at-test.true)) _ c.there-s.ensures
    c.is_skipped.ensures (ap not c.if-not-is_skipped.true)

pub loop-at-smaller : goal.loop-at-smaller
loop-at-smaller c = shorter c.loop-at.invariant (some c.is_none.ensures (ap not c.loop-at-test.true)) _ c.there-s.ensures

pub loop-at-preserved : goal.loop-at-preserved
loop-at-preserved c =
    onward c.loop-at.invariant (some c.is_none.ensures (ap not c.loop-at-test.true)) _ c.there-s.ensures
    c.is_skipped.ensures (omega (arith, c.there-s.type_inv)) (ap not c.if-not-is_skipped.false)

pub returns : goal.returns
returns c = none_left c.loop-at.invariant (none c.is_none.ensures (ap not c.loop-at-test.false))
