-- The bytes that a line holds. Assumes nothing.
use Rattle.std.specs.Prelude.{◌≡◌}
use Rattle.numbers.specs.Library.{List, ℕ, take, take_all, length-take, arith}
use Rattle.input.specs.Kept.{short}
use Rattle.input.specs.declared.Line.{Line}

abbrev pub kept : Line → List ℕ
kept line = take line.have line.bytes

-- they are no more than are kept
pub kept_short : (line : Line) → short (kept line) ≡ kept line
unfolding short
kept_short line = take_all 81 (take line.have line.bytes) (omega (arith, line.room, length-take line.have line.bytes))
