use Rattle.plan.specs.Spare.{freed_items}
use Rattle.plan.proofs.freed_items.Goals as goal

pub returns-then-is_none : goal.returns-then-is_none
unfolding freed_items
returns-then-is_none c = rw (← c.is_none.ensures, c.if-is_none.true)

pub returns-then-is_none-2 : goal.returns-then-is_none-2
unfolding freed_items
returns-then-is_none-2 c = rw (← c.is_none.ensures, c.if-is_none.false, ← c.get-v.ensures, ← c.is_none-2.ensures, c.if-is_none-2.true)

pub returns : goal.returns
unfolding freed_items
returns c = rw (← c.is_none.ensures, c.if-is_none.false, ← c.get-v.ensures, ← c.is_none-2.ensures, c.if-is_none-2.false)
