use Rattle.numbers.specs.Library.{refl}
use Rattle.rows.specs.Prelude.{below_there}
use Rattle.merge_items.specs.MergeItems.{merge_next}
use Rattle.merge_items.specs.LooseIn.{around}
use Rattle.merge_items.proofs.merge_next.Goals as goal

pub linked_item-i-requires : goal.linked_item-i-requires
unfolding merge_next
linked_item-i-requires c = below_there c.requires.table _ c.requires.here

pub is_free_item-requires : goal.is_free_item-requires
unfolding merge_next
is_free_item-requires c = rw c.linked_item-i.ensures (below_there c.requires.table _ (around c.requires).next)

pub returns-then-is_free_item : goal.returns-then-is_free_item
unfolding merge_next
returns-then-is_free_item c = rw (← c.linked_item-i.ensures, ← c.is_free_item.ensures, c.if-is_free_item.true) c.absorb_next.ensures

pub returns : goal.returns
unfolding merge_next
returns c = rw (← c.linked_item-i.ensures, ← c.is_free_item.ensures, c.if-is_free_item.false) (record { header = refl; first = refl; items = refl })
