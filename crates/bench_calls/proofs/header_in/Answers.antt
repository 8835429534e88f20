use Rattle.bench_calls.proofs.header_in.Goals as goal

pub returns : goal.returns
returns c = rw c.of_halves.ensures
