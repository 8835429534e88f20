-- `put_row`: a row that is not live puts nothing, and a live one its line.
use Rattle.script_tells.proofs.Rows.{listed_no_row, listed_row}
use Rattle.script_tells.proofs.list.put_row.Goals as goal

pub returns-then-i-ne1 : goal.returns-then-i-ne1
returns-then-i-ne1 c = listed_no_row _ _ _ _ _ c.there-i.ensures c.if-i-ne1.true _ _

pub returns : goal.returns
returns c =
    listed_row _ _ _ _ _ c.there-i.ensures c.if-i-ne1.false _ c.live_of_item-found.ensures c.put_answer.ensures
