use Rattle.numbers.specs.Library.{to_z-of_z}
use Rattle.hosts.proofs.allocate.Goals as goal

pub returns : goal.returns
returns c =
    record {
      said = c.allocate-said.result.answer;
      promise = rw c.from-3.ensures (rw c.from.ensures at (simp (to_z-of_z c.ranges.w, to_z-of_z c.ranges.height) at c.allocate-said.ensures));
      told = c.from-2.ensures;
    }
