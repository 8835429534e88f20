-- `release`: 3, or what the call without the audit answers.
use Rattle.numbers.specs.Prelude.{allowed}
use Rattle.release.proofs.Cases.{releases_3}
use Rattle.numbers.specs.Library.{ap, not}
use Rattle.release.proofs.release.Goals as goal

pub returns-then-not-passes : goal.returns-then-not-passes
returns-then-not-passes c = releases_3 _ _ _ _ _ c.passes.ensures (ap not c.if-not-passes.true) _ c.refused.ensures

pub release_unaudited-requires : goal.release_unaudited-requires
release_unaudited-requires c = allowed c.passes.ensures (ap not c.if-not-passes.false)
