use Rattle.numbers.specs.Library.{arith, sym, ◌∙◌}
use Rattle.rows.specs.Row.{has_rows_lem}
use Rattle.rows.proofs.row.Row.has.Goals as goal

pub returns : goal.returns
returns g c = rw (c.NUMBERS.ensures ∙ sym g.met.Self.Row.wide) (has_rows_lem g.Self.Row.shape c.args.table.now c.args.n (omega arith))
