use Rattle.rows.specs.Prelude.{below_there}
use Rattle.merge_items.specs.MergeItems.{loosen}
use Rattle.merge_items.specs.LooseIn.{marked, from_here, next_in, goes_on}
use Rattle.merge_items.proofs.loosen.Goals as goal

pub mark_free-requires : goal.mark_free-requires
unfolding loosen
mark_free-requires c = below_there c.requires.table _ c.requires.here

pub merge_next-m-requires : goal.merge_next-m-requires
unfolding loosen
merge_next-m-requires c = rw c.mark_free.ensures (from_here (marked c.requires))

pub merge_into-requires : goal.merge_into-requires
unfolding loosen
merge_into-requires c = goes_on (rw c.mark_free.ensures at c.merge_next-m.ensures) (next_in (marked c.requires))

pub returns : goal.returns
unfolding loosen
returns c =
    record {
      header = rw (c.merge_into.ensures.header, c.merge_next-m.ensures.header, c.merge_next-m.ensures.first, c.merge_next-m.ensures.items, c.mark_free.ensures);
      first = rw (c.merge_into.ensures.first, c.merge_next-m.ensures.header, c.merge_next-m.ensures.first, c.merge_next-m.ensures.items, c.mark_free.ensures);
      items = rw (c.merge_into.ensures.items, c.merge_next-m.ensures.header, c.merge_next-m.ensures.first, c.merge_next-m.ensures.items, c.mark_free.ensures);
    }
