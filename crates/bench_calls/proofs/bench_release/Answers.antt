use Rattle.bench_calls.proofs.bench_release.Goals as goal

pub release_unaudited-said-requires : goal.release_unaudited-said-requires
release_unaudited-said-requires c = rw c.header_in-h.ensures c.requires

pub returns : goal.returns
returns c =
    record {
      said = c.release_unaudited-said.result;
      promise = rw c.header_in-h.ensures at c.release_unaudited-said.ensures;
      told = c.reply_told.ensures;
      header = c.put_header.ensures;
    }
