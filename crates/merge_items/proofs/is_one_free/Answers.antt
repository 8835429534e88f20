use Rattle.numbers.specs.Library.{eq-eqb, ne_eqb}
use Rattle.merge_items.specs.MergeItems.{one_free_of}
use Rattle.merge_items.proofs.is_one_free.Goals as goal

pub returns-then-v-eq0 : goal.returns-then-v-eq0
unfolding one_free_of
returns-then-v-eq0 c = rw (← c.linked_item-v.ensures, eq-eqb _ _ c.if-v-eq0.true) c.is_none.ensures

pub returns-else-v-eq0 : goal.returns-else-v-eq0
unfolding one_free_of
returns-else-v-eq0 c = rw (← c.linked_item-v.ensures, ne_eqb _ _ c.if-v-eq0.false)
