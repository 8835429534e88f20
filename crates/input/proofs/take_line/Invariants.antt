-- `take_line`: the loop passes bytes that end no line, and keeps them as far as there is room.
use Rattle.std.specs.Prelude.{◌≤◌, ◌≡◌}
use Rattle.numbers.specs.Library.{length, take}
use Rattle.input.specs.Takes.{GoesOn}
use Rattle.input.proofs.take_line.Given as goal

abbrev pub invariant-loop-before : goal.invariant-loop-before
invariant-loop-before l = GoesOn (take l.have0 l.initial.line) (take l.before l.piece) (take l.have l.line) × (l.have ≤ 81) × (length l.line ≡ 81)
