use Rattle.numbers.specs.Library.{sym, ◌∙◌}
use Rattle.rows.specs.Row.{rows_fit, put_there}
use Rattle.rows.proofs.row.Row.put_there.Goals as goal

pub slice_bounds-write-end : goal.slice_bounds-write-end
slice_bounds-write-end g c = rw (c.number.ensures, c.NUMBERS-width.ensures ∙ sym g.met.Self.Row.wide) (rows_fit g.Self.Row.shape _ _ c.requires)

pub returns : goal.returns
returns g c = rw (c.write.ensures, c.number.ensures, c.NUMBERS-width.ensures ∙ sym g.met.Self.Row.wide) (put_there g.Self.Row.shape _ _ _ c.requires)
