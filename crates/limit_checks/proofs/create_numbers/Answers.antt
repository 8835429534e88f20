-- `create_numbers`: each raw number is read without its sign, and then judged.
use Rattle.std.specs.Prelude.{◌≡◌}
use Rattle.numbers.specs.Prelude.{natural, flag_of, create_numbers}
use Rattle.numbers.proofs.Signed.{as_given}
use Rattle.limit_checks.proofs.create_numbers.Goals as goal

pub returns : goal.returns
unfolding create_numbers
returns c =
    let w : c.natural_of.result ≡ natural c.args.w = as_given natural c.ranges.w c.natural_of.ensures in
    let h : c.natural_of-2.result ≡ natural c.args.h = as_given natural c.ranges.h c.natural_of-2.ensures in
    let x : c.natural_of-3.result ≡ natural c.args.align_width = as_given natural c.ranges.align_width c.natural_of-3.ensures in
    let y : c.natural_of-4.result ≡ natural c.args.align_height = as_given natural c.ranges.align_height c.natural_of-4.ensures in
    let v : c.flag_of.result ≡ flag_of c.args.vertical = as_given flag_of c.ranges.vertical c.flag_of.ensures in
    let n : c.natural_of-5.result ≡ natural c.args.columns = as_given natural c.ranges.columns c.natural_of-5.ensures in
    rw (c.judge_limits.ensures, w, h, x, y, v, n)
