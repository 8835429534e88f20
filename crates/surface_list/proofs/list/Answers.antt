-- `list`: 3, then 10, then the live items by rising row; in tables that pass, each row that is read for them is there.
use Rattle.numbers.specs.Library.{ap, not}
use Rattle.numbers.specs.Prelude.{allowed}
use Rattle.bridge.proofs.Calls.{rows_there}
use Rattle.surface_list.proofs.Laid.{lives_3, lives_short, lives_all}
use Rattle.surface_list.proofs.list.Goals as goal

pub returns-then-not-passes : goal.returns-then-not-passes
returns-then-not-passes c = lives_3 _ _ _ c.passes.ensures (ap not c.if-not-passes.true) _

pub live_count-count-requires : goal.live_count-count-requires
live_count-count-requires c = (allowed c.passes.ensures (ap not c.if-not-passes.false)).rule1.items_fit

pub returns-then-out-count : goal.returns-then-out-count
returns-then-out-count c =
    lives_short _ _ _ (allowed c.passes.ensures (ap not c.if-not-passes.false)) _ _ c.live_count-count.ensures c.if-out-count.true

pub lay_rows-requires : goal.lay_rows-requires
lay_rows-requires c =
    (rows_there _ _ _ (allowed c.passes.ensures (ap not c.if-not-passes.false)), rw (← c.live_count-count.ensures) c.if-out-count.false)

pub returns : goal.returns
returns c =
    lives_all _ _ _ (allowed c.passes.ensures (ap not c.if-not-passes.false)) _ _ c.live_count-count.ensures c.if-out-count.false _ c.lay_rows.ensures
