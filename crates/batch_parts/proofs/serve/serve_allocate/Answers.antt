use Rattle.numbers.specs.Library.{w32, arith}
use mir.Facts.{to_z_pos}
use Rattle.batch_rules.proofs.Serving.{served_grant}
use Rattle.batch_parts.proofs.serve.serve_allocate.Goals as goal

pub returns : goal.returns
returns c =
    served_grant _ _ _ _ _ _ _ c.allocate_unaudited-said.result _ c.from.ensures
    (simp (to_z_pos w32 {n = c.args.w} (omega (arith, c.ranges.w)), to_z_pos w32 {n = c.args.height} (omega (arith, c.ranges.height))) at c.allocate_unaudited-said.ensures)
