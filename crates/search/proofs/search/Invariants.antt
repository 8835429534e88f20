-- `search`: the invariant says that the loop's variables carry what the definition holds, and that the rest of the chain leads to what the whole search
-- holds; the measure is the length of that rest. The loop knows no header, so both are said for every header that the tables are walkable with. Assumes
-- nothing.
use Rattle.numbers.specs.Library.{length}
use Rattle.rows.specs.declared.header.Header.{Header}
use Rattle.search.specs.Walkable.{Walkable}
use Rattle.search.proofs.ToTry.{chain_from}
use Rattle.search.proofs.ShelfTurns.{AtShelf}
use Rattle.search.proofs.search.Given as goal

abbrev pub invariant-loop-asked : goal.invariant-loop-asked
invariant-loop-asked l =
    (h : Header) → Walkable h l.shelves l.items → AtShelf h l.shelves l.items l.asked l.from.0 l.below l.held

abbrev pub decreases-loop-asked : goal.decreases-loop-asked
decreases-loop-asked l = length (chain_from l.shelves l.from.0)
