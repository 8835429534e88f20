use Rattle.plytimber.proofs.plytimber_batch.Goals as goal

pub returns : goal.returns
returns c = record { said = c.batch.result; promise = rw c.from.ensures at c.batch.ensures; told = c.from-2.ensures }
