use Rattle.rows.specs.Prelude.{below_there}
use Rattle.item_edits.specs.ItemEdits.{next_unlist}
use Rattle.merge_items.specs.MergeItems.{absorb_next}
use Rattle.merge_items.specs.LooseIn.{around, unlisted, unlist_asks, join_asks}
use Rattle.merge_items.proofs.absorb_next.Goals as goal

pub linked_item-i-requires : goal.linked_item-i-requires
unfolding absorb_next
linked_item-i-requires c = below_there c.requires.table _ c.requires.here

pub linked_item-n-requires : goal.linked_item-n-requires
unfolding absorb_next
linked_item-n-requires c = rw c.linked_item-i.ensures (below_there c.requires.table _ (around c.requires).next)

pub unlist-requires : goal.unlist-requires
unfolding absorb_next
unlist-requires c = rw c.linked_item-i.ensures (unlist_asks c.requires.table _ (around c.requires).next)

pub join_next-header-requires : goal.join_next-header-requires
unfolding absorb_next
join_next-header-requires c = rw (c.unlist.ensures, c.linked_item-i.ensures) (join_asks (unlisted c.requires) _ c.requires.here)

pub returns : goal.returns
unfolding absorb_next
returns c =
    record {
      header = rw (c.join_next-header.ensures.0, c.unlist.ensures, next_unlist);
      first = rw (c.first_after.ensures, c.linked_item-n.ensures, c.linked_item-i.ensures);
      items = rw (c.join_next-header.ensures.1, c.unlist.ensures, c.linked_item-i.ensures);
    }
