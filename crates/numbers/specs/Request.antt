-- A request as an allocator takes it up: its sides aligned, judged and rounded. Assumes nothing.
use Rattle.std.specs.Prelude.{◌<◌, ◌≤◌, ◌≡◌, ◌&&◌, Option, Some, None, Result, Ok, Err}
use Rattle.numbers.specs.Library.{ℕ, refl, and-false, leb, le-leb, lt-leb, ℤ}
use Rattle.numbers.specs.declared.{limits.Limits.Limits, request.Asked.Asked}
use Rattle.numbers.specs.declared.refusal.Refusal.{Refusal}
use Rattle.numbers.specs.declared.refusal.Refusal.TheVariants as refusal
use Rattle.numbers.specs.Pick.{pick}
use Rattle.numbers.specs.Axes.{first_axis, second_axis}
use Rattle.numbers.specs.Round.{round_up}
use Rattle.numbers.specs.Bands.{shelf_height}
use Rattle.numbers.specs.Sides.{side_of}

module _ (l : Limits) where
  -- answer 5 where the aligned width or depth passes the shelf width or the atlas; else the depth is rounded up to its step
  unfoldable pub asked_within : ℕ → ℕ → Result Asked Refusal
  unfolding shelf_height
  asked_within width depth =
      pick (leb width l.shelf_width && leb depth l.height)
      (Ok (record { width = width; depth = shelf_height l.height depth; aligned = depth }))
      (Err refusal.TooLarge)

  module _ (width depth : ℕ) where
    pub too_wide : l.shelf_width < width → asked_within width depth ≡ Err refusal.TooLarge
    unfolding asked_within
    too_wide h = rw (lt-leb width l.shelf_width h)

    pub too_deep : l.height < depth → asked_within width depth ≡ Err refusal.TooLarge
    unfolding asked_within
    too_deep h = rw (lt-leb depth l.height h, and-false)

    pub fitting : width ≤ l.shelf_width → depth ≤ l.height
        → asked_within width depth ≡ Ok (record { width = width; depth = shelf_height l.height depth; aligned = depth })
    unfolding asked_within
    fitting h k = rw (le-leb width l.shelf_width h, le-leb depth l.height k)

  -- each side is rounded up to its own alignment
  unfoldable pub asked_of : ℕ → ℕ → Result Asked Refusal
  unfolding asked_within round_up first_axis second_axis
  asked_of w h =
      asked_within
      (first_axis l.vertical (round_up l.align_width w) (round_up l.align_height h))
      (second_axis l.vertical (round_up l.align_width w) (round_up l.align_height h))

  -- answer 4 is decided on the raw sides
  unfoldable pub judged : Option ℕ → Option ℕ → Result Asked Refusal
  unfolding asked_of
  judged (Some w) (Some h) = asked_of w h
  judged (Some w) None = Err refusal.Side
  judged None h = Err refusal.Side

  -- what a request of raw sides asks, or its refusal
  unfoldable pub asked : ℤ → ℤ → Result Asked Refusal
  unfolding judged side_of
  asked w h = judged (side_of w) (side_of h)

  pub bad_width : (w h : ℤ) → side_of w ≡ None → asked w h ≡ Err refusal.Side
  unfolding judged asked
  bad_width w h e = rw e

  pub bad_height : (w h : ℤ) → side_of h ≡ None → asked w h ≡ Err refusal.Side
  unfolding judged asked
  bad_height w h e = rw e (go (side_of w)) where
    go : (s : Option ℕ) → judged s None ≡ Err refusal.Side
    go (Some a) = refl
    go None = refl

  pub good_sides : (w h : ℤ) (a b : ℕ) → side_of w ≡ Some a → side_of h ≡ Some b → asked w h ≡ asked_of a b
  unfolding judged asked
  good_sides w h a b e f = rw (e, f)
