use Rattle.live_rows.proofs.live_of_item.Goals as goal

pub returns : goal.returns
returns c = rw (c.live_of_rows.ensures, c.there.ensures)
