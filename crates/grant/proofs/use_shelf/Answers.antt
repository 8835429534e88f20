use Rattle.grant.specs.Grant.{use_shelf}
use Rattle.grant.proofs.use_shelf.Goals as goal

pub returns : goal.returns
unfolding use_shelf
returns c = rw (c.set_free.ensures, c.first_after-first.ensures)
