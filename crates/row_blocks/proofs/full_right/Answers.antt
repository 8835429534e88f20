use Rattle.numbers.specs.Library.{arith}
use Rattle.numbers.specs.Prelude.{refuted, denied, allowed}
use Rattle.row_blocks.proofs.Places.{rows_full, none_right, one_right, right_there, all_right}
use Rattle.numbers.specs.Library.{ap, not}
use Rattle.row_blocks.proofs.full_right.Goals as goal

pub returns-then-full-eq0 : goal.returns-then-full-eq0
returns-then-full-eq0 c = all_right _ _ _ _ _ _ (omega arith) (omega arith) (none_right _ _ _ _)

pub loop-b-init : goal.loop-b-init
loop-b-init c = none_right _ _ _ _

pub returns-then-not-one_right : goal.returns-then-not-one_right
returns-then-not-one_right c =
    let rows = rows_full c.requires.0 c.args.full c.loop-b.b (omega arith) (omega arith) in
    refuted (λ all. denied c.one_right.ensures (ap not c.if-not-one_right.true) (right_there _ _ _ _ _ _ rows.are _ (omega arith) all))

pub loop-b-preserved : goal.loop-b-preserved
loop-b-preserved c =
    let rows = rows_full c.requires.0 c.args.full c.loop-b.b (omega arith) (omega arith) in
    one_right _ _ _ _ _ _ rows.are c.loop-b.invariant (allowed c.one_right.ensures (ap not c.if-not-one_right.false))
