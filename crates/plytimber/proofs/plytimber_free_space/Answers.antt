use Rattle.plytimber.proofs.plytimber_free_space.Goals as goal

pub returns : goal.returns
returns c = record { said = c.free_space.result; promise = rw c.from.ensures at c.free_space.ensures; told = c.from-2.ensures }
