use Rattle.numbers.specs.Library.{lt-ltb, le-ltb}
use Rattle.init.specs.Init.{row_after}
use Rattle.init.proofs.shelf_after.Goals as goal

pub returns-then-k-n : goal.returns-then-k-n
unfolding row_after
returns-then-k-n c = rw (lt-ltb _ _ c.if-k-n.true)

pub returns : goal.returns
unfolding row_after
returns c = rw (le-ltb _ _ c.if-k-n.false)
