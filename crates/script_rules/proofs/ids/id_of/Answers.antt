-- `id_of`: both numbers name a row and a generation, or there is no id.
use Rattle.numbers.specs.Library.{sym, ap, ◌∙◌, to_z-of_z}
use Rattle.lines.specs.Ids.{row_of}
use Rattle.script_rules.specs.Ids.{id_no_row, id_no_generation, id_both}
use Rattle.script_rules.proofs.ids.id_of.Goals as goal

pub returns-in_err-row : goal.returns-in_err-row
returns-in_err-row c =
    c.from_residual.ensures ∙ sym (id_no_row c.args.row c.args.generation (sym (c.in_err-row.ensures ∙ ap row_of (to_z-of_z c.ranges.row))))

pub returns-in_err-generation : goal.returns-in_err-generation
returns-in_err-generation c =
    c.from_residual-in_err-generation.ensures
    ∙ sym (id_no_generation c.args.row c.args.generation
    (sym (c.in_ok-row.ensures ∙ ap row_of (to_z-of_z c.ranges.row)))
    (sym (c.in_err-generation.ensures ∙ ap row_of (to_z-of_z c.ranges.generation))))

pub returns : goal.returns
returns c =
    sym (id_both c.args.row c.args.generation
    (sym (c.in_ok-row.ensures ∙ ap row_of (to_z-of_z c.ranges.row)))
    (sym (c.in_ok-generation.ensures ∙ ap row_of (to_z-of_z c.ranges.generation))))
