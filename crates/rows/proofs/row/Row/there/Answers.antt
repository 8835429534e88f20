use Rattle.numbers.specs.Library.{sym, ◌∙◌}
use Rattle.rows.specs.Row.{rows_fit, get_there}
use Rattle.rows.proofs.row.Row.there.Goals as goal

pub slice_bounds-read-end : goal.slice_bounds-read-end
slice_bounds-read-end g c = rw (c.number.ensures, c.NUMBERS-width.ensures ∙ sym g.met.Self.Row.wide) (rows_fit g.Self.Row.shape _ _ c.requires)

pub returns : goal.returns
returns g c = rw (c.read.ensures, c.number.ensures, c.NUMBERS-width.ensures ∙ sym g.met.Self.Row.wide) (get_there g.Self.Row.shape _ _ c.requires)
