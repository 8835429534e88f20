use Rattle.std.specs.Prelude.{◌≡◌}
use Rattle.numbers.specs.Library.{sym, arith}
use Rattle.rows.specs.Prelude.{items, shelves}
use Rattle.init.specs.Init.{fresh_shelf_table, fresh_item_table, write_none, write_more, length-write_rows}
use Rattle.init.proofs.init.Goals as goal

pub loop-k-init : goal.loop-k-init
loop-k-init c = (sym (write_none shelves _ _), sym (write_none items _ _))

pub loop-k-preserved : goal.loop-k-preserved
loop-k-preserved c = (
  rw (c.put.ensures, c.fresh_shelf.ensures, c.loop-k.invariant.0) (sym (write_more shelves _ _ _)),
  rw (c.put-in-loop-k.ensures, c.fresh_item.ensures, c.loop-k.invariant.1) (sym (write_more items _ _ _)),
)

pub shape_of-shelves : goal.shape_of-shelves
shape_of-shelves c = rw c.loop-k.invariant.0 (length-write_rows shelves _ _ _)

pub shape_of-items : goal.shape_of-items
shape_of-items c = rw c.loop-k.invariant.1 (length-write_rows items _ _ _)

pub returns : goal.returns
unfolding fresh_shelf_table fresh_item_table
returns c =
    let l = c.loop-k in
    let e : l.k ≡ c.args.n = omega arith in
    (rw (l.invariant.0, e), rw (l.invariant.1, e))
