-- `create`: 1, 2, then what is made within the limits.
use Rattle.numbers.specs.Library.{refl, sym, ◌∙◌}
use Rattle.numbers.specs.Prelude.{create_numbers}
use Rattle.promises.proofs.Signed.{as_given_6}
use Rattle.create.proofs.Cases.{creates_within, creates_beyond}
use Rattle.create.proofs.create.Goals as goal

pub returns-in-Ok : goal.returns-in-Ok
returns-in-Ok c =
    creates_within _ _ c.args.w c.args.h c.args.align_width c.args.align_height c.args.vertical c.args.columns _ _ _ _
    (sym (as_given_6 create_numbers c.ranges.w c.ranges.h c.ranges.align_width c.ranges.align_height c.ranges.vertical c.ranges.columns c.create_numbers-made.ensures) ∙ c.in-Ok.is) c.make_within.ensures

pub returns-in-Err : goal.returns-in-Err
returns-in-Err c =
    creates_beyond _ _ c.args.w c.args.h c.args.align_width c.args.align_height c.args.vertical c.args.columns _ _ _ _
    (sym (as_given_6 create_numbers c.ranges.w c.ranges.h c.ranges.align_width c.ranges.align_height c.ranges.vertical c.ranges.columns c.create_numbers-made.ensures) ∙ c.in-Err.is) c.no_atlas.ensures refl refl
