-- `next_to_try`: the invariant says that the shelves before this row are skipped, and the measure is the length of the rest of the chain.
use Rattle.numbers.specs.Library.{length}
use Rattle.search.proofs.ToTry.{chain_from, AtSkipped}
use Rattle.search.proofs.next_to_try.Given as goal

abbrev pub invariant-loop-at : goal.invariant-loop-at
invariant-loop-at l = AtSkipped l.shelves l.depth l.good_to l.below l.holding l.initial.at.0 l.at.0

abbrev pub decreases-loop-at : goal.decreases-loop-at
decreases-loop-at l = length (chain_from l.shelves l.at.0)
