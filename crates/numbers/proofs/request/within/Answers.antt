use Rattle.numbers.specs.Library.{sym, arith}
use Rattle.numbers.specs.Prelude.{too_wide, too_deep, fitting}
use Rattle.numbers.proofs.request.within.Goals as goal

pub returns-then-width-l : goal.returns-then-width-l
returns-then-width-l c = sym (too_wide _ _ _ (omega arith))

pub returns-then-depth-l : goal.returns-then-depth-l
returns-then-depth-l c = sym (too_deep _ _ _ (omega arith))

pub returns : goal.returns
returns c = rw c.shelf_height.ensures (sym (fitting _ _ _ (omega arith) (omega arith)))
