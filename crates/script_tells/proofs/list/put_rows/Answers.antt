use Rattle.numbers.specs.Library.{arith}
use Rattle.script_tells.specs.Listing.{listed_none, listed_then}
use Rattle.script_tells.proofs.Rows.{row_few, rows_none, rows_more}
use Rattle.script_tells.proofs.list.put_rows.Goals as goal

pub loop-row-init : goal.loop-row-init
loop-row-init c = (rw rows_none (listed_none _ _), omega arith, omega arith)

-- a row has one line at most, and there are fewer rows than 65536
pub overflow_add-count : goal.overflow_add-count
overflow_add-count c =
    let counted = c.put_row-lines.ensures.counted in
    let row = c.loop-row.row in
    let given = c.args in
    omega (arith, counted, row_few given.h given.shelves.now given.items.now row)

pub loop-row-preserved : goal.loop-row-preserved
loop-row-preserved c =
    let given = c.args in (
      rw rows_more (listed_then c.loop-row.invariant.0 c.put_row-lines.ensures),
      omega (arith, c.put_row-lines.ensures.counted, row_few given.h given.shelves.now given.items.now c.loop-row.row),
      omega arith,
    )
