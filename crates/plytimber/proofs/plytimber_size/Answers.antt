use Rattle.plytimber.proofs.plytimber_size.Goals as goal

pub returns : goal.returns
returns c = record { said = c.size.result; promise = rw c.from.ensures at c.size.ensures; told = c.from-2.ensures }
