-- The call by value promises this. Written out, so that a wrong header is told by name.
use Rattle.surface.proofs.clear.Goals as goal

pub returns : goal.returns
returns c = c.clear-cleared.ensures
