-- The call by value promises this, of the sides by way of their bits. Written out, so that a wrong header is told by name.
use Rattle.numbers.specs.Library.{to_z-of_z}
use Rattle.surface.proofs.allocate.Goals as goal

pub returns : goal.returns
returns c = rw (to_z-of_z c.ranges.w, to_z-of_z c.ranges.height) at c.allocate-granted.ensures
