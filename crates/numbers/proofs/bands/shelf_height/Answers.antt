use Rattle.numbers.specs.Library.{arith, sym}
use Rattle.numbers.specs.Prelude.{height_rounded, height_kept}
use Rattle.numbers.proofs.bands.shelf_height.Goals as goal

pub returns-then-rounded-atlas_depth : goal.returns-then-rounded-atlas_depth
returns-then-rounded-atlas_depth c = sym (height_rounded _ _ c.adjust_size-rounded.result (rw (← c.depth_step.ensures) c.adjust_size-rounded.ensures) (omega arith))

pub returns : goal.returns
returns c = sym (height_kept _ _ c.adjust_size-rounded.result (rw (← c.depth_step.ensures) c.adjust_size-rounded.ensures) (omega arith))
