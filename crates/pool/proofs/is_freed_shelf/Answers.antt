use Rattle.pool.specs.PoolLaws.{freed_shelf_lem}
use Rattle.pool.proofs.is_freed_shelf.Goals as goal

pub returns : goal.returns
returns c = rw (c.sum-place.ensures.0, c.sum-links.ensures.0) (freed_shelf_lem _)
