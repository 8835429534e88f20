-- `allocate`: 3, or what the call without the audit answers.
use Rattle.numbers.specs.Library.{to_z-of_z}
use Rattle.numbers.specs.Prelude.{allowed}
use Rattle.allocate.proofs.Grants.{allocates_3}
use Rattle.numbers.specs.Library.{ap, not}
use Rattle.allocate.proofs.allocate.Goals as goal

pub returns-then-not-passes : goal.returns-then-not-passes
returns-then-not-passes c = allocates_3 _ _ _ _ _ c.passes.ensures (ap not c.if-not-passes.true) _ c.refused.ensures

pub allocate_unaudited-requires : goal.allocate_unaudited-requires
allocate_unaudited-requires c = allowed c.passes.ensures (ap not c.if-not-passes.false)

pub returns : goal.returns
returns c = simp (to_z-of_z c.ranges.w, to_z-of_z c.ranges.height) at c.allocate_unaudited.ensures
