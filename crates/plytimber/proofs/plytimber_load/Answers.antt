use Rattle.numbers.specs.Library.{refl}
use Rattle.plytimber.proofs.plytimber_load.Goals as goal

pub returns : goal.returns
returns c = rw c.from.ensures (record { said = c.load.result.answer; promise = c.load.ensures; told = refl })
