use Rattle.numbers.specs.Library.{ap, ◌∙◌, to_z-of_z}
use Rattle.lines.specs.Ids.{row_of}
use Rattle.lines.proofs.Rows.{row_converted}
use Rattle.lines.proofs.ids.row_of.Goals as goal

pub returns : goal.returns
returns c = c.ok.ensures.value ∙ row_converted _ _ c.try_from.ensures ∙ ap row_of (to_z-of_z c.ranges.raw)
