-- What create accepts is within the limits. Assumes nothing.
use Rattle.std.specs.Prelude.{◌*◌, ◌-◌, ◌/◌, ◌%◌, ◌≡◌, ◌&&◌, Ok, Err}
use Rattle.numbers.specs.Library.{ℕ, refl, Bool, true, false, div-add-mod', arith, leb, ℤ, leb-true}
use Rattle.std.proofs.Math.Nat.{mul-mod_left}
use Rattle.numbers.specs.declared.limits.Limits.{Limits}
use Rattle.numbers.specs.declared.refusal.Refusal.TheVariants as refusal
use Rattle.numbers.specs.Pick.{pick}
use Rattle.numbers.specs.Tests.{both}
use Rattle.numbers.specs.Axes.{first_axis}
use Rattle.numbers.specs.Sides.{natural, flag_of}
use Rattle.numbers.specs.Limits.{sizes_good, options_good, shelf_width_of, along_step, WithinLimits, limits_for, judged_limits, create_numbers, sizes_say}
use Rattle.numbers.specs.Limits.{options_say, shelf_width_most}

-- S is a multiple of the step
pub shelf_width_multiple : (width columns step : ℕ) → shelf_width_of width columns step % step ≡ 0
unfolding shelf_width_of
shelf_width_multiple width columns step =
    let share = width / columns in
    let m : share - share % step ≡ share / step * step = omega (arith, div-add-mod' share step) in
    rw m (mul-mod_left (share / step) step)

-- an accepted create passed all of its tests
module _ (columns : ℕ) (l made : Limits) where
  pub accepted_tests :
      judged_limits columns l ≡ Ok made
      → (sizes_good l.width l.height ≡ true)
      × ((options_good l.align_width l.align_height l.vertical && (leb 1 columns && leb 1 l.shelf_width)) ≡ true)
      × (l ≡ made)
  unfolding judged_limits
  accepted_tests e = go _ _ e where
    go : (a b : Bool) → pick a (pick b (Ok l) (Err refusal.Options)) (Err refusal.Size) ≡ Ok made → (a ≡ true) × (b ≡ true) × (l ≡ made)
    go true true e = (refl, refl, cc)
    go true false e = cc
    go false b e = cc

kept :
    (w h x y v n : ℕ)
    → sizes_good (limits_for w h x y v n).width (limits_for w h x y v n).height ≡ true
    → (options_good (limits_for w h x y v n).align_width (limits_for w h x y v n).align_height (limits_for w h x y v n).vertical
    && (leb 1 n && leb 1 (limits_for w h x y v n).shelf_width))
    ≡ true
    → WithinLimits (limits_for w h x y v n)
unfolding limits_for along_step
kept w h x y v n s o =
    let t = both (options_good x y v) _ o in
    record {
      sizes = (sizes_say _ _).sound s;
      options = (options_say _ _ _).sound t.0;
      s_least = leb-true 1 _ (both (leb 1 n) _ t.1).1;
      s_most = shelf_width_most (first_axis v w h) n (first_axis v x y);
      s_aligned = shelf_width_multiple (first_axis v w h) n (first_axis v x y);
    }

-- what create makes keeps the limits
pub created_within :
    (w h alignWidth alignHeight vertical columns : ℤ) (made : Limits)
    → create_numbers w h alignWidth alignHeight vertical columns ≡ Ok made
    → WithinLimits made
unfolding create_numbers
created_within w h alignWidth alignHeight vertical columns made e =
    let l : Limits = limits_for (natural w) (natural h) (natural alignWidth) (natural alignHeight) (flag_of vertical) (natural columns) in
    let t = accepted_tests (natural columns) l made e in
    rw (← t.2) (kept (natural w) (natural h) (natural alignWidth) (natural alignHeight) (flag_of vertical) (natural columns) t.0 t.1)
