-- `first_wide`: the invariant says that the loop is at some row, and that what is left of the list finds what the whole list finds; the measure is its
-- length.
use Rattle.std.specs.Prelude.{◌≢◌}
use Rattle.numbers.specs.Library.{length}
use Rattle.numbers.specs.Prelude.{no_row}
use Rattle.search.proofs.FreeList.{AtItem, list_from}
use Rattle.search.proofs.first_wide.Given as goal

abbrev pub invariant-loop-v : goal.invariant-loop-v
invariant-loop-v l = (l.at.0 ≢ no_row) × AtItem l.items l.width l.initial.at.0 l.at.0

abbrev pub decreases-loop-v : goal.decreases-loop-v
decreases-loop-v l = length (list_from l.items l.at.0)
