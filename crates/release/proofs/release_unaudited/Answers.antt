-- `release_unaudited`: 8, or the item is free again.
use Rattle.numbers.specs.Library.{sym, ◌∙◌}
use Rattle.bridge.proofs.Calls.{releasable}
use Rattle.release.proofs.Cases.{releases_none, releases_done}
use Rattle.release.proofs.release_unaudited.Goals as goal

pub returns-then-not-is_live : goal.returns-then-not-is_live
returns-then-not-is_live c = releases_none _ _ _ _ _ c.requires (sym c.is_live.ensures ∙ c.if-not-is_live.true) _ c.refused.ensures

pub release_row-header-requires : goal.release_row-header-requires
release_row-header-requires c = releasable _ _ _ c.requires _ _ (sym c.is_live.ensures ∙ c.if-not-is_live.false)

pub returns : goal.returns
returns c = releases_done _ _ _ _ _ c.requires (sym c.is_live.ensures ∙ c.if-not-is_live.false) _ _ _ c.release_row-header.ensures
