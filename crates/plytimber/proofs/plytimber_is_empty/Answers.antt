use Rattle.plytimber.proofs.plytimber_is_empty.Goals as goal

pub returns : goal.returns
returns c = record { said = c.is_empty.result; promise = rw c.from.ensures at c.is_empty.ensures; told = c.from-2.ensures }
