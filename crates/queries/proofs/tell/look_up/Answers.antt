-- `look_up`: 3, or what the call without the audit says of tables that pass.
use Rattle.numbers.specs.Prelude.{allowed}
use Rattle.queries.proofs.Cases.{looks_3}
use Rattle.numbers.specs.Library.{ap, not}
use Rattle.queries.proofs.tell.look_up.Goals as goal

pub returns-then-not-passes : goal.returns-then-not-passes
returns-then-not-passes c = looks_3 _ _ _ c.passes.ensures _ _ (ap not c.if-not-passes.true)

pub look_up_unaudited-requires : goal.look_up_unaudited-requires
look_up_unaudited-requires c = allowed c.passes.ensures (ap not c.if-not-passes.false)

pub returns : goal.returns
returns c = c.look_up_unaudited.ensures
