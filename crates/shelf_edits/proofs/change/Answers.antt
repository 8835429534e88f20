use Rattle.numbers.specs.Library.{rules}
use Rattle.rows.specs.Prelude.{change-is}
use Rattle.shelf_edits.proofs.change.Goals as goal

pub returns : goal.returns
returns g c = λ k e. rw (c.put.ensures, change-is, e c.get-s.result c.f.new.arg2 (search rules), c.get-s.ensures)
