use Rattle.live_rows.specs.Live.{area_at}
use Rattle.live_rows.proofs.area_at.Goals as goal

pub there-s-requires : goal.there-s-requires
unfolding area_at
there-s-requires c = rw c.there-i.ensures c.requires.1

pub returns : goal.returns
unfolding area_at
returns c = rw (c.area_of_rows.ensures, c.there-s.ensures, c.there-i.ensures)
