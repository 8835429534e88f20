-- `list`: 3, or what the call without the audit says of tables that pass.
use Rattle.numbers.specs.Prelude.{allowed}
use Rattle.listing.proofs.Listed.{lists_3}
use Rattle.numbers.specs.Library.{ap, not}
use Rattle.listing.proofs.list.list.Goals as goal

pub returns-then-not-passes : goal.returns-then-not-passes
returns-then-not-passes c = lists_3 _ _ _ c.passes.ensures (ap not c.if-not-passes.true) _

pub list_unaudited-requires : goal.list_unaudited-requires
list_unaudited-requires c = allowed c.passes.ensures (ap not c.if-not-passes.false)

pub returns : goal.returns
returns c = c.list_unaudited.ensures
