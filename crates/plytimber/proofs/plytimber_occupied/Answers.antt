use Rattle.plytimber.proofs.plytimber_occupied.Goals as goal

pub returns : goal.returns
returns c = record { said = c.occupied.result; promise = rw c.from.ensures at c.occupied.ensures; told = c.from-2.ensures }
