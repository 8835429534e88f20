-- `on_create`: the public create, and its answer; the header that stood before is asked nothing.
use Rattle.numbers.specs.Library.{w32, SFits, to_z-of_z}
use Rattle.rules.specs.Prelude.{Create}
use Rattle.promises.specs.Prelude.{creations, Creates}
use Rattle.promises.proofs.Cases.{create_any}
use Rattle.script_rules.specs.Answers.{change_of, created}
use Rattle.script_rules.proofs.Told.{told_by_lem, created_text}
use Rattle.script_calls.proofs.on_create.Goals as goal

pub returns : goal.returns
unfolding change_of Creates
returns c =
    let a = c.args.args in
    let g = c.struct_told-1.given in
    let f0 : SFits w32 a.w = record { sfits = g.0.1 } in
    let f1 : SFits w32 a.h = record { sfits = g.1.0.1 } in
    let f2 : SFits w32 a.align_w = record { sfits = g.1.1.0.1 } in
    let f3 : SFits w32 a.align_h = record { sfits = g.1.1.1.0.1 } in
    let f4 : SFits w32 a.vertical = record { sfits = g.1.1.1.1.0.1 } in
    let f5 : SFits w32 a.columns = record { sfits = g.1.1.1.1.1.0.1 } in
    told_by_lem creations created created_text (Create a.w a.h a.align_w a.align_h a.vertical a.columns) _ _ _ _ _ _ _
    (create_any a.w a.h a.align_w a.align_h a.vertical a.columns c.args.h _ _ _ _ _ _
    (simp (to_z-of_z f0, to_z-of_z f1, to_z-of_z f2, to_z-of_z f3, to_z-of_z f4, to_z-of_z f5) at c.create-made.ensures))
    _ c.of_creation.ensures
