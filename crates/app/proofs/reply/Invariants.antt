-- The loop's invariant: the bytes taken so far are fed.
use Rattle.std.specs.Prelude.{◌≤◌, ◌<◌, ◌-◌, ◌≡◌}
use Rattle.numbers.specs.Library.{length, take}
use Rattle.input.specs.Line.{kept}
use Rattle.app.specs.Reads.{Pending}
use Rattle.app.proofs.reply.Given as goal

abbrev pub invariant-loop-taken : goal.invariant-loop-taken
invariant-loop-taken g l = record {
  fed : Pending (kept l.initial.line) (take l.taken l.piece) (record { header = l.initial.header; shelves = l.initial.shelves; items = l.initial.items }) (record { header = l.header; shelves = l.shelves; items = l.items }) (kept l.line) l.out l.filled;
  within : l.taken ≤ length l.piece;
  room : l.filled ≤ 51161;
  size : 131072 ≡ length l.out;
  few : length l.piece < 18446744073709551616;
}

abbrev pub decreases-loop-taken : goal.decreases-loop-taken
decreases-loop-taken g l = length l.piece - l.taken
