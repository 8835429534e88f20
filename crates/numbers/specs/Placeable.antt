-- What a request that is neither 4 nor 5 asks for. Assumes nothing.
use Rattle.std.specs.Prelude.{◌%◌, ◌≤◌, ◌≡◌}
use Rattle.numbers.specs.declared.{limits.Limits.Limits, request.Asked.Asked}
use Rattle.numbers.specs.Bands.{shelf_height}
use Rattle.numbers.specs.Limits.{along_step}

-- Its width is aligned and no wider than a shelf; its depth is the aligned depth rounded up, and no deeper than the atlas.
pub record Placeable (l : Limits) (a : Asked) : Type 0 where
  pub some_width : 1 ≤ a.width
  pub aligned : a.width % along_step l ≡ 0
  pub no_wider : a.width ≤ l.shelf_width
  pub some_depth : 1 ≤ a.depth
  pub no_deeper : a.depth ≤ l.height
  pub rounded : a.depth ≡ shelf_height l.height a.aligned
