use Rattle.init.specs.Init.{before_some}
use Rattle.init.proofs.shelf_before.Goals as goal

pub returns-then-k-eq0 : goal.returns-then-k-eq0
returns-then-k-eq0 c = rw c.if-k-eq0.true

pub returns : goal.returns
returns c = rw (before_some _ c.if-k-eq0.false)
