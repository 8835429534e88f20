-- `are_right`: the full blocks, and then the last where it is not full.
use Rattle.numbers.specs.Library.{refl, arith}
use Rattle.numbers.specs.Prelude.{refuted, denied, allowed}
use Rattle.row_blocks.proofs.Places.{filled, rows_last, full_decides, last_right, fewer_right}
use Rattle.numbers.specs.Library.{ap, not}
use Rattle.row_blocks.proofs.RowBlocks.are_right.Goals as goal

pub returns-then-not-full_right : goal.returns-then-not-full_right
returns-then-not-full_right c =
    let full = filled c.args.self.laid in
    refuted (λ all. denied (full_decides c.args.self.laid full _ c.full_right.ensures) (ap not c.if-not-full_right.true) (fewer_right _ _ _ _ _ _ _ full.within (λ b d. refl) all))

pub returns : goal.returns
returns c =
    let full = filled c.args.self.laid in
    last_right _ _ _ _ _ _ (rows_last c.args.self.laid full).are _ (omega arith) (allowed (full_decides c.args.self.laid full _ c.full_right.ensures) (ap not c.if-not-full_right.false)) c.one_right.ensures
