use Rattle.numbers.specs.Library.{sym, ◌∙◌, arith}
use Rattle.rows.specs.Row.{get_none, get-short, get_part}
use Rattle.rows.proofs.row.Row.get.Goals as goal

pub returns-then-row : goal.returns-then-row
returns-then-row g c = rw c.zero.ensures (get_none g.Self.Row.shape _ _ (sym c.number-row.ensures ∙ c.if-row.true))

pub returns-then-table-end : goal.returns-then-table-end
returns-then-table-end g c =
    rw c.zero-then-table-end.ensures (get-short g.Self.Row.shape _ _ (rw (← c.number-row.ensures, g.met.Self.Row.wide ∙ sym c.NUMBERS-width.ensures) (omega arith)))

pub returns : goal.returns
returns g c =
    rw (c.read.ensures, c.number-row.ensures, c.NUMBERS-width.ensures ∙ sym g.met.Self.Row.wide)
    (get_part g.Self.Row.shape _ _ (rw (← c.number-row.ensures) (omega arith)) (rw (← c.number-row.ensures, g.met.Self.Row.wide ∙ sym c.NUMBERS-width.ensures) (omega arith)))
