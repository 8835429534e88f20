-- `list_unaudited`: 10, then the live items by rising row; in tables that pass, each row that is read for them is there.
use Rattle.bridge.proofs.Calls.{rows_there}
use Rattle.listing.proofs.Listed.{lists_short, lists_all}
use Rattle.listing.proofs.list.list_unaudited.Goals as goal

pub live_count-count-requires : goal.live_count-count-requires
live_count-count-requires c = c.requires.rule1.items_fit

pub returns-then-capacity-count : goal.returns-then-capacity-count
returns-then-capacity-count c =
    lists_short _ _ _ c.requires _ _ c.live_count-count.ensures _ c.capacity.ensures c.if-capacity-count.true

pub list_rows-requires : goal.list_rows-requires
list_rows-requires c =
    (rows_there _ _ _ c.requires, rw (← c.live_count-count.ensures, ← c.capacity.ensures) c.if-capacity-count.false)

pub returns : goal.returns
returns c =
    lists_all _ _ _ c.requires _ _ c.live_count-count.ensures _ c.capacity.ensures c.if-capacity-count.false _ c.list_rows.ensures
