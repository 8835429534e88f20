use Rattle.plytimber.proofs.plytimber_save.Goals as goal

pub returns : goal.returns
returns c = record { said = c.save.result; promise = rw c.from.ensures at c.save.ensures; told = c.from-2.ensures }
