use Rattle.numbers.specs.Library.{refl}
use Rattle.rows.specs.Prelude.{below_there}
use Rattle.merge_items.specs.MergeItems.{merge_into}
use Rattle.merge_items.specs.LooseIn.{around, join_asks}
use Rattle.merge_items.proofs.merge_into.Goals as goal

pub linked_item-i-requires : goal.linked_item-i-requires
unfolding merge_into
linked_item-i-requires c = below_there c.requires.table _ c.requires.here

pub is_free_item-requires : goal.is_free_item-requires
unfolding merge_into
is_free_item-requires c = rw c.linked_item-i.ensures (below_there c.requires.table _ (around c.requires).prev)

pub join_next-header-requires : goal.join_next-header-requires
unfolding merge_into
join_next-header-requires c = rw c.linked_item-i.ensures (join_asks c.requires.table _ (around c.requires).prev)

pub returns-then-is_free_item : goal.returns-then-is_free_item
unfolding merge_into
returns-then-is_free_item c = rw (← c.linked_item-i.ensures, ← c.is_free_item.ensures, c.if-is_free_item.true) (record { header = c.join_next-header.ensures.0; first = refl; items = c.join_next-header.ensures.1 })

pub enlist-requires : goal.enlist-requires
unfolding merge_into
enlist-requires c = (below_there c.requires.table _ c.requires.first, below_there c.requires.table _ c.requires.here)

pub returns : goal.returns
unfolding merge_into
returns c = rw (← c.linked_item-i.ensures, ← c.is_free_item.ensures, c.if-is_free_item.false) (record { header = refl; first = refl; items = c.enlist.ensures })
