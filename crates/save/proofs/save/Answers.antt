-- `save`: 3, or what the call without the audit says of tables that pass.
use Rattle.numbers.specs.Prelude.{allowed}
use Rattle.save.proofs.Saved.{saves_3}
use Rattle.numbers.specs.Library.{ap, not}
use Rattle.save.proofs.save.Goals as goal

pub returns-then-not-passes : goal.returns-then-not-passes
returns-then-not-passes c = saves_3 _ _ _ c.passes.ensures (ap not c.if-not-passes.true) _

pub save_unaudited-requires : goal.save_unaudited-requires
save_unaudited-requires c = allowed c.passes.ensures (ap not c.if-not-passes.false)
