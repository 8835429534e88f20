-- Whenever the program reads, its state is that after some bytes were fed from the start on.
use Rattle.input.specs.Line.{kept}
use Rattle.app.specs.Reads.{Reads}
use Rattle.app.proofs.obey.Given as goal

abbrev pub invariant-loop : goal.invariant-loop
invariant-loop g l =
    Reads (kept l.initial.line) (record { header = l.initial.header; shelves = l.initial.shelves; items = l.initial.items }) (record { header = l.header; shelves = l.shelves; items = l.items }) (kept l.line)
