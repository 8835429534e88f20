use Rattle.bench_calls.proofs.bench_list.Goals as goal

pub list_unaudited-requires : goal.list_unaudited-requires
list_unaudited-requires c = rw c.from.ensures c.requires

pub returns : goal.returns
returns c =
    record {
      said = c.list_unaudited.result;
      promise = rw c.from.ensures at c.list_unaudited.ensures;
      told = c.from-2.ensures;
    }
