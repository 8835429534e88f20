-- `read_words`: the words so far are numbers and kept in order, and the command of the line is what they and the rest of it make (`Claim`).
use Rattle.std.specs.Prelude.{◌-◌, ◌≤◌, ◌≡◌}
use Rattle.numbers.specs.Library.{length, take, get_or}
use Rattle.lines.proofs.Words.{Claim}
use Rattle.lines.proofs.read.read_words.Given as goal

abbrev pub invariant-loop-at : goal.invariant-loop-at
invariant-loop-at l =
    (l.at ≤ length l.line) × (l.count ≤ 6) × (6 ≡ length l.numbers) × Claim l.line (get_or l.line 0 0) (take l.count l.numbers) l.at

abbrev pub decreases-loop-at : goal.decreases-loop-at
decreases-loop-at l = length l.line - l.at
