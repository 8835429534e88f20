use Rattle.live_rows.specs.Live.{live_at}
use Rattle.live_rows.proofs.live_at.Goals as goal

pub live_of_item-requires : goal.live_of_item-requires
unfolding live_at
live_of_item-requires c = rw c.there-i.ensures c.requires.1

pub returns : goal.returns
unfolding live_at
returns c = rw (c.live_of_item.ensures, c.there-i.ensures)
