-- `within_limits`: the sizes, the options, then S; each test that passed gives its part of the limits.
use Rattle.numbers.specs.Prelude.{as_test, refuted, denied, allowed, sizes_say, options_say, shelf_width_says}
use Rattle.numbers.specs.Library.{ap, not}
use Rattle.limit_checks.proofs.within_limits.Goals as goal

pub returns-then-not-sizes_good : goal.returns-then-not-sizes_good
returns-then-not-sizes_good c = refuted (λ w. denied (as_test c.sizes_good.ensures (sizes_say _ _)) (ap not c.if-not-sizes_good.true) w.sizes)

pub returns-then-not-options_good : goal.returns-then-not-options_good
returns-then-not-options_good c = refuted (λ w. denied (as_test c.options_good.ensures (options_say _ _ _)) (ap not c.if-not-options_good.true) w.options)

pub returns : goal.returns
returns c =
    let d = as_test c.shelf_width_good.ensures (shelf_width_says _ _ _) in
    record {
      sound = λ e. record {
        sizes = allowed (as_test c.sizes_good.ensures (sizes_say _ _)) (ap not c.if-not-sizes_good.false);
        options = allowed (as_test c.options_good.ensures (options_say _ _ _)) (ap not c.if-not-options_good.false);
        s_least = (d.sound e).0;
        s_most = (d.sound e).1;
        s_aligned = rw (← c.along_step.ensures) (d.sound e).2;
      };
      complete = λ w. d.complete (w.s_least, w.s_most, rw c.along_step.ensures w.s_aligned);
    }
