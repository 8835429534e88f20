-- `sizes_good`: W, then H, then the area, which can't wrap once the first two have passed.
use Rattle.std.specs.Prelude.{◌*◌, ◌≤◌}
use Rattle.numbers.specs.Library.{refl, sym, ◌∙◌, mul-le-mul, arith}
use Rattle.numbers.specs.Prelude.{most_side, one_to_lem, stop, go_on, most_height, sizes_good}
use Rattle.numbers.specs.Library.{ap, not}
use Rattle.limit_checks.proofs.sizes_good.Goals as goal

pub returns-then-not-one_to : goal.returns-then-not-one_to
unfolding sizes_good
returns-then-not-one_to c = stop _ _ c.one_to.ensures (ap not c.if-not-one_to.true)

pub returns-then-not-one_to-2 : goal.returns-then-not-one_to-2
unfolding sizes_good
returns-then-not-one_to-2 c = go_on _ _ c.one_to.ensures (ap not c.if-not-one_to.false) (stop _ _ c.one_to-2.ensures (ap not c.if-not-one_to-2.true))

pub overflow_mul-result : goal.overflow_mul-result
overflow_mul-result c =
    let w = (one_to_lem most_side c.args.width).sound (sym c.one_to.ensures ∙ c.if-not-one_to.false) in
    let h = (one_to_lem most_height c.args.height).sound (sym c.one_to-2.ensures ∙ c.if-not-one_to-2.false) in
    let p : c.args.width * c.args.height ≤ most_side * most_height = mul-le-mul w.1 h.1 in
    record { fits = omega arith }

pub returns : goal.returns
unfolding sizes_good
returns c = go_on _ _ c.one_to.ensures (ap not c.if-not-one_to.false) (go_on _ _ c.one_to-2.ensures (ap not c.if-not-one_to-2.false) refl)
