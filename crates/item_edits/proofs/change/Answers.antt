use Rattle.numbers.specs.Library.{rules}
use Rattle.rows.specs.Prelude.{change-is}
use Rattle.item_edits.proofs.change.Goals as goal

pub returns : goal.returns
returns g c = λ k e. rw (c.put_linked_item.ensures, change-is, e c.linked_item-v.result c.f.new.arg2 (search rules), c.linked_item-v.ensures)
