-- `serve_all`: the invariant says what stands before request k.
use Rattle.batch_rules.proofs.Loop.{AtRequest}
use Rattle.batch.proofs.serve_all.Given as goal

abbrev pub invariant-loop-k : goal.invariant-loop-k
invariant-loop-k l = AtRequest l.requests l.initial.header l.initial.shelves l.initial.items l.initial.out l.n l.k l.header l.shelves l.items l.out
