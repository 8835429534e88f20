use Rattle.numbers.specs.Library.{to_z-of_z}
use Rattle.bench_calls.proofs.bench_allocate.Goals as goal

pub allocate_unaudited-said-requires : goal.allocate_unaudited-said-requires
allocate_unaudited-said-requires c = rw c.header_in-h.ensures c.requires

pub returns : goal.returns
returns c =
    record {
      said = c.allocate_unaudited-said.result;
      promise = rw c.header_in-h.ensures at (simp (to_z-of_z c.ranges.w, to_z-of_z c.ranges.height) at c.allocate_unaudited-said.ensures);
      told = c.from.ensures;
      header = c.put_header.ensures;
    }
