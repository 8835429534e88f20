use Rattle.rows.specs.Prelude.{with_item_x, with_width, with_item_prev, with_item_next, with_prev_free, with_next_free, with_shelf}
use Rattle.item_edits.specs.ItemEdits.{with_links, with_span, lone_item}
use Rattle.item_edits.proofs.lone_item.Goals as goal

pub returns : goal.returns
unfolding with_item_x with_width with_item_prev with_item_next with_prev_free with_next_free with_shelf with_links with_span lone_item
returns c = rw c.zero.ensures
