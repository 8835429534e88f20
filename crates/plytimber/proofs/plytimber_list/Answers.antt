use Rattle.plytimber.proofs.plytimber_list.Goals as goal

pub returns : goal.returns
returns c = record { said = c.list.result; promise = rw c.from.ensures at c.list.ensures; told = c.from-2.ensures }
