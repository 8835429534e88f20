use Rattle.std.specs.Prelude.{◌%◌, ◌≡◌}
use Rattle.numbers.specs.Library.{refl, sym, ◌∙◌, mod-zero, arith, ne_eqb}
use Rattle.numbers.specs.Prelude.{one_to_lem, stop, go_on, shelf_width_good}
use Rattle.numbers.specs.Library.{ap, not}
use Rattle.limit_checks.proofs.shelf_width_good.Goals as goal

pub returns-then-not-one_to : goal.returns-then-not-one_to
unfolding shelf_width_good
returns-then-not-one_to c = stop _ _ c.one_to.ensures (ap not c.if-not-one_to.true)

pub returns-then-step-eq0 : goal.returns-then-step-eq0
unfolding shelf_width_good
returns-then-step-eq0 c =
    let s = c.args in
    let w = (one_to_lem s.width s.shelf_width).sound (sym c.one_to.ensures ∙ c.if-not-one_to.false) in
    let m : s.shelf_width % s.step ≡ s.shelf_width = rw c.if-step-eq0.true (mod-zero s.shelf_width) in
    go_on _ _ c.one_to.ensures (ap not c.if-not-one_to.false) (sym (ne_eqb _ _ (λ (z : s.shelf_width % s.step ≡ 0). omega arith)))

pub returns : goal.returns
unfolding shelf_width_good
returns c = go_on _ _ c.one_to.ensures (ap not c.if-not-one_to.false) refl
