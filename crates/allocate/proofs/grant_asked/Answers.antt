-- `grant_asked`: 6 where the search answers no place, and else what the place gives.
use Rattle.bridge.proofs.Search.Walkable.{walkable}
use Rattle.allocate.proofs.Grants.{asked_none, asked_some, asked_there}
use Rattle.allocate.proofs.grant_asked.Goals as goal

pub search-requires : goal.search-requires
search-requires c = walkable c.requires

pub returns-in_default : goal.returns-in_default
returns-in_default c = asked_none _ _ _ _ c.requires _ c.search.ensures c.in_default.is _ c.refused.ensures

pub grant_there-requires : goal.grant_there-requires
grant_there-requires c = asked_there _ _ _ _ c.requires _ c.search.ensures _ c.in-Some.is

pub returns : goal.returns
returns c = asked_some _ _ _ _ c.requires _ c.search.ensures _ c.in-Some.is _ _ _ c.grant_there.ensures
