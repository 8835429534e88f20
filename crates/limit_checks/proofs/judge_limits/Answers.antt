-- `judge_limits`: answer 1 for the sizes, then 2 for the options, for no column and for an S of 0; past its test each is known, and so each cast fits.
use Rattle.std.specs.Prelude.{◌≡◌}
use Rattle.numbers.specs.Library.{ℕ, Bool, sym, ◌∙◌, true, arith}
use Rattle.numbers.specs.Prelude.{stop, first_axis, sizes_good, limits_for, shelf_width_of, sizes_say, options_say, shelf_width_most}
use Rattle.numbers.specs.Prelude.{refused_1, refused_2, no_columns, no_shelf_width, accepted}
use Rattle.numbers.specs.Library.{ap, not}
use Rattle.limit_checks.proofs.judge_limits.Goals as goal

-- past the first test
sizes : {w h : ℕ} {b : Bool} (x y : ℕ) → w ≡ x → h ≡ y → b ≡ sizes_good w h → b ≡ true → sizes_good x y ≡ true
sizes x y e1 e2 s t = rw (← e1, ← e2) (sym s ∙ t)

-- past S
shelf : {w x s : ℕ} (columns wv xv : ℕ) → w ≡ wv → x ≡ xv → s ≡ shelf_width_of w columns x → s ≡ shelf_width_of wv columns xv
shelf columns wv xv e1 e2 h = rw (← e1, ← e2) h

pub returns-then-not-sizes_good : goal.returns-then-not-sizes_good
unfolding limits_for
returns-then-not-sizes_good c =
    sym (refused_1 _ _
    (rw (← c.first_axis-width.ensures, ← c.second_axis-height.ensures)
    (sym c.sizes_good.ensures ∙ c.if-not-sizes_good.true)))

pub returns-then-not-options_good : goal.returns-then-not-options_good
unfolding limits_for
returns-then-not-options_good c = sym (refused_2 _ _ (sizes _ _ c.first_axis-width.ensures c.second_axis-height.ensures c.sizes_good.ensures c.if-not-sizes_good.false) (sym (stop _ _ c.options_good.ensures (ap not c.if-not-options_good.true))))

pub returns-then-columns-lt1 : goal.returns-then-columns-lt1
unfolding limits_for
returns-then-columns-lt1 c = sym (no_columns _ _ (sizes _ _ c.first_axis-width.ensures c.second_axis-height.ensures c.sizes_good.ensures c.if-not-sizes_good.false) (sym c.options_good.ensures ∙ c.if-not-options_good.false) (omega arith))

pub returns-then-shelf_width-lt1 : goal.returns-then-shelf_width-lt1
unfolding limits_for
returns-then-shelf_width-lt1 c =
    let e = shelf _ _ _ c.first_axis-width.ensures c.first_axis.ensures c.shelf_width_of-shelf_width.ensures in
    sym (no_shelf_width _ _ (sizes _ _ c.first_axis-width.ensures c.second_axis-height.ensures c.sizes_good.ensures c.if-not-sizes_good.false) (sym c.options_good.ensures ∙ c.if-not-options_good.false) (omega arith) (omega (arith, e)))

pub overflow_cast-result : goal.overflow_cast-result
overflow_cast-result c = record { fits = omega (arith, ((sizes_say _ _).sound (sizes _ _ c.first_axis-width.ensures c.second_axis-height.ensures c.sizes_good.ensures c.if-not-sizes_good.false)).w_most, c.first_axis-width.ensures) }

pub overflow_cast-result-2 : goal.overflow_cast-result-2
overflow_cast-result-2 c = record { fits = omega (arith, ((sizes_say _ _).sound (sizes _ _ c.first_axis-width.ensures c.second_axis-height.ensures c.sizes_good.ensures c.if-not-sizes_good.false)).h_most, c.second_axis-height.ensures) }

pub overflow_cast-result-3 : goal.overflow_cast-result-3
overflow_cast-result-3 c = record { fits = omega (arith, ((options_say _ _ _).sound (sym c.options_good.ensures ∙ c.if-not-options_good.false)).align_width_most) }

pub overflow_cast-result-4 : goal.overflow_cast-result-4
overflow_cast-result-4 c = record { fits = omega (arith, ((options_say _ _ _).sound (sym c.options_good.ensures ∙ c.if-not-options_good.false)).align_height_most) }

pub overflow_cast-result-5 : goal.overflow_cast-result-5
overflow_cast-result-5 c =
    let s = c.args in
    let m = shelf_width_most (first_axis s.vertical s.w s.h) s.columns (first_axis s.vertical s.align_width s.align_height) in
    record { fits = omega (arith, ((sizes_say _ _).sound (sizes _ _ c.first_axis-width.ensures c.second_axis-height.ensures c.sizes_good.ensures c.if-not-sizes_good.false)).w_most, shelf _ _ _ c.first_axis-width.ensures c.first_axis.ensures c.shelf_width_of-shelf_width.ensures, m) }

pub returns : goal.returns
unfolding limits_for
returns c =
    let e = shelf _ _ _ c.first_axis-width.ensures c.first_axis.ensures c.shelf_width_of-shelf_width.ensures in
    rw (e, c.second_axis-height.ensures, c.first_axis-width.ensures)
    (sym (accepted _ _ (sizes _ _ c.first_axis-width.ensures c.second_axis-height.ensures c.sizes_good.ensures c.if-not-sizes_good.false) (sym c.options_good.ensures ∙ c.if-not-options_good.false) (omega arith) (omega (arith, e))))
