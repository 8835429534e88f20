use Rattle.item_edits.specs.ItemEdits.{first_after}
use Rattle.item_edits.proofs.first_after.Goals as goal

pub returns-then-eq : goal.returns-then-eq
unfolding first_after
returns-then-eq c = rw (← c.eq.ensures, c.if-eq.true)

pub returns : goal.returns
unfolding first_after
returns c = rw (← c.eq.ensures, c.if-eq.false)
