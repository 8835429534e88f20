use Rattle.rows.specs.Prelude.{change-is, with_first_free, with_empty}
use Rattle.shelf_edits.specs.ShelfEdits.{with_free}
use Rattle.shelf_edits.proofs.set_free.Goals as goal

pub returns : goal.returns
unfolding with_free with_first_free with_empty
returns c = rw (c.put_there.ensures, c.there-s.ensures, change-is)
