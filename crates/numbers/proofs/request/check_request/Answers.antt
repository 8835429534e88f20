-- `check_request`: 4 for either raw side, then what the aligned sides ask; signed numbers reach the callee as they were given.
use Rattle.std.specs.Prelude.{◌≡◌}
use Rattle.numbers.specs.Library.{sym, ◌∙◌}
use Rattle.numbers.specs.Prelude.{side_of, bad_width, bad_height, good_sides, asked_of}
use Rattle.numbers.proofs.Signed.{as_given}
use Rattle.numbers.proofs.request.check_request.Goals as goal

pub returns-in_default : goal.returns-in_default
returns-in_default c =
    let e : c.side_of.result ≡ side_of c.args.w = as_given side_of c.ranges.w c.side_of.ensures in
    sym (bad_width _ c.args.w c.args.h (sym e ∙ c.in_default.is))

pub returns-in_default-side_of : goal.returns-in_default-side_of
returns-in_default-side_of c =
    let e = as_given side_of c.ranges.h c.side_of-2.ensures in
    sym (bad_height _ c.args.w c.args.h (sym e ∙ c.in_default-side_of.is))

pub returns : goal.returns
unfolding asked_of
returns c =
    let e = as_given side_of c.ranges.w c.side_of.ensures in
    let f = as_given side_of c.ranges.h c.side_of-2.ensures in
    let g = good_sides c.args.l c.args.w c.args.h _ _
    (sym e ∙ c.in-Some.is) (sym f ∙ c.in-Some-side_of.is) in
    rw (c.within.ensures, c.second_axis.ensures, c.first_axis.ensures, c.adjust_size-y.ensures, c.adjust_size-x.ensures)
    (sym g)
