use Rattle.numbers.specs.Library.{arith, sym, ◌∙◌}
use Rattle.rows.specs.Row.{rows_are}
use Rattle.rows.proofs.row.Row.capacity.Goals as goal

pub returns-then-n : goal.returns-then-n
returns-then-n g c = rw (rows_are g.Self.Row.shape, g.met.Self.Row.wide ∙ sym c.NUMBERS.ensures) (omega arith)

pub returns : goal.returns
returns g c = rw (rows_are g.Self.Row.shape, g.met.Self.Row.wide ∙ sym c.NUMBERS.ensures) (omega arith)
