use Rattle.bench_calls.proofs.bench_look_up.Goals as goal

pub look_up_unaudited-requires : goal.look_up_unaudited-requires
look_up_unaudited-requires c = rw c.from.ensures c.requires

pub returns : goal.returns
returns c =
    record {
      said = c.look_up_unaudited.result;
      promise = rw c.from.ensures at c.look_up_unaudited.ensures;
      told = c.from-2.ensures;
    }
