-- `look_up_unaudited`: 8, then the item; in tables that pass, its row and its shelf's are there.
use Rattle.numbers.specs.Library.{sym, ◌∙◌}
use Rattle.live_rows.specs.Live.{live_there}
use Rattle.bridge.proofs.Calls.{rows_there}
use Rattle.queries.proofs.Cases.{looks_none, looks_some}
use Rattle.queries.proofs.tell.look_up_unaudited.Goals as goal

pub is_live-requires : goal.is_live-requires
is_live-requires c = c.requires.rule1.items_fit

pub returns-then-not-is_live : goal.returns-then-not-is_live
returns-then-not-is_live c = looks_none _ _ _ c.requires _ _ (sym c.is_live.ensures ∙ c.if-not-is_live.true)

pub live_at-requires : goal.live_at-requires
live_at-requires c = live_there (rows_there _ _ _ c.requires) _ _ (sym c.is_live.ensures ∙ c.if-not-is_live.false)

pub returns : goal.returns
returns c =
    looks_some _ _ _ c.requires _ _ (sym c.is_live.ensures ∙ c.if-not-is_live.false) _ c.live_at.ensures
