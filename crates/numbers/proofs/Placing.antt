-- A request that is neither 4 nor 5 asks for what `Placeable` says.
use Rattle.std.specs.Prelude.{◌%◌, ◌≤◌, ◌≡◌, ◌&&◌, Option, Some, None, Ok, Err}
use Rattle.numbers.specs.Library.{ℕ, refl, Bool, true, false, arith, leb, eqb, ℤ, leb-true}
use Rattle.numbers.specs.declared.{limits.Limits.Limits, request.Asked.Asked}
use Rattle.numbers.specs.declared.refusal.Refusal.TheVariants as refusal
use Rattle.numbers.specs.Pick.{pick}
use Rattle.numbers.specs.Tests.{both}
use Rattle.numbers.specs.Axes.{first_axis, second_axis}
use Rattle.numbers.specs.Round.{round_up, RoundsUp, rounds_up}
use Rattle.numbers.specs.Bands.{shelf_height, height_enough, height_within}
use Rattle.numbers.specs.Sides.{side_of, side_range}
use Rattle.numbers.specs.Limits.{along_step, WithinLimits}
use Rattle.numbers.specs.Request.{asked_within, asked_of, judged, asked}
use Rattle.numbers.specs.Placeable.{Placeable}

module _ (l : Limits) (a : Asked) where
  within_placeable : (width depth : ℕ) → 1 ≤ width → width % along_step l ≡ 0 → 1 ≤ depth → asked_within l width depth ≡ Ok a → Placeable l a
  unfolding asked_within
  within_placeable width depth w m d e = go (leb width l.shelf_width && leb depth l.height) refl e where
    go :
        (b : Bool) → (leb width l.shelf_width && leb depth l.height) ≡ b
        → pick b (Ok (record { width = width; depth = shelf_height l.height depth; aligned = depth })) (Err refusal.TooLarge) ≡ Ok a
        → Placeable l a
    go true t e =
        let is : ◌≡◌ {A = Asked} (record { width = width; depth = shelf_height l.height depth; aligned = depth }) a = cc in
        let fit = both (leb width l.shelf_width) (leb depth l.height) t in
        rw (← is) (record {
          some_width = w;
          aligned = m;
          no_wider = leb-true width l.shelf_width fit.0;
          some_depth = omega (arith, height_enough l.height depth);
          no_deeper = height_within l.height depth (leb-true depth l.height fit.1);
          rounded = refl;
        })
    go false t e = cc

  module _ (limits : WithinLimits l) where
    sides_placeable : (w h : ℕ) → 1 ≤ w → 1 ≤ h → asked_of l w h ≡ Ok a → Placeable l a
    unfolding asked_of along_step first_axis second_axis
    sides_placeable w h m n e = go (eqb l.vertical 1) refl e where
      x : RoundsUp l.align_width w (round_up l.align_width w)
      x = rounds_up l.align_width w limits.options.align_width_least

      y : RoundsUp l.align_height h (round_up l.align_height h)
      y = rounds_up l.align_height h limits.options.align_height_least

      go :
          (b : Bool) → eqb l.vertical 1 ≡ b
          → asked_within l (pick b (round_up l.align_height h) (round_up l.align_width w))
          (pick b (round_up l.align_width w) (round_up l.align_height h))
          ≡ Ok a
          → Placeable l a
      go true v e = within_placeable _ _ (omega (arith, y.enough)) (rw v y.multiple) (omega (arith, x.enough)) e
      go false v e = within_placeable _ _ (omega (arith, x.enough)) (rw v x.multiple) (omega (arith, y.enough)) e

    pub asked_placeable : (w h : ℤ) → asked l w h ≡ Ok a → Placeable l a
    unfolding asked judged
    asked_placeable w h e = go (side_of w) (side_of h) refl refl e where
      go : (s t : Option ℕ) → side_of w ≡ s → side_of h ≡ t → judged l s t ≡ Ok a → Placeable l a
      go (Some m) (Some n) p q e = sides_placeable m n (side_range w m p).0 (side_range h n q).0 e
      go (Some m) None p q e = cc
      go None t p q e = cc
