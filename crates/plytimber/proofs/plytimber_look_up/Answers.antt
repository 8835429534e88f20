use Rattle.plytimber.proofs.plytimber_look_up.Goals as goal

pub returns : goal.returns
returns c = record { said = c.look_up.result; promise = rw c.from.ensures at c.look_up.ensures; told = c.from-2.ensures }
