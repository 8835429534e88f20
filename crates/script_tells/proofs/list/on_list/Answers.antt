-- `on_list`: 3, then the lines of all items and their count.
use Rattle.numbers.specs.Prelude.{allowed}
use Rattle.bridge.proofs.Calls.{rows_there}
use Rattle.script_rules.proofs.Told.{said}
use Rattle.script_tells.proofs.Told.{list_3, list_told}
use Rattle.numbers.specs.Library.{ap, not}
use Rattle.script_tells.proofs.list.on_list.Goals as goal

pub returns-then-not-passes : goal.returns-then-not-passes
returns-then-not-passes c = said (list_3 _ _ _ c.passes.ensures (ap not c.if-not-passes.true)) c.say.ensures

-- tables that pass have the rows that are read
pub put_rows-lines-requires : goal.put_rows-lines-requires
put_rows-lines-requires c = rows_there _ _ _ (allowed c.passes.ensures (ap not c.if-not-passes.false))

pub returns : goal.returns
returns c = list_told _ _ _ c.passes.ensures (ap not c.if-not-passes.false) _ c.put_rows-lines.ensures c.say-2.ensures
