-- A grant covers the sides as they were asked for: each was rounded up, and changed places with the other twice or not at all. Assumes nothing.
use Rattle.std.specs.Prelude.{◌≤◌, ◌≡◌, ◌&&◌, Option, Some, None, Ok, Err}
use Rattle.numbers.specs.Library.{ℕ, refl, Bool, true, false, ℤ, pos, negsuc, arith, leb, eqb}
use Rattle.numbers.specs.Prelude.{pick, one_to, natural, side_of, asked_of, asked, first_axis, second_axis, WithinLimits}
use Rattle.numbers.specs.Request.{asked_within, judged}
use Rattle.numbers.specs.Round.{round_up, rounds_up}
use Rattle.numbers.specs.Bands.{shelf_height, height_enough}
use Rattle.numbers.specs.Sides.{most_side}
use Rattle.numbers.specs.declared.{limits.Limits.Limits, request.Asked.Asked}
use Rattle.numbers.specs.declared.refusal.Refusal.TheVariants as refusal
use Rattle.rows.specs.declared.live.Live.{Live}
use Rattle.laws.specs.Lives.{Enough, Covered}

-- a side that fits is the number that was asked for
side_is : (w : ℤ) (m : ℕ) → side_of w ≡ Some m → w ≡ pos m
unfolding side_of natural one_to
side_is (pos k) m e = go (leb 1 k && leb k most_side) e where
  go : (b : Bool) → pick b (Some k) None ≡ Some m → pos k ≡ pos m
  go true e = cc
  go false e = cc
side_is (negsuc k) m e = cc

module _ (l : Limits) (q : Asked) where
  -- what is asked for is the aligned width, and a depth that is no less than the aligned one
  asked_sides : (width depth : ℕ) → asked_within l width depth ≡ Ok q → (q.width ≡ width) × (depth ≤ q.depth)
  unfolding asked_within
  asked_sides width depth = go (leb width l.shelf_width && leb depth l.height) where
    go : (b : Bool) → pick b (Ok (record { width = width; depth = shelf_height l.height depth; aligned = depth })) (Err refusal.TooLarge) ≡ Ok q → (q.width ≡ width) × (depth ≤ q.depth)
    go true e =
        let is : ◌≡◌ {A = Asked} (record { width = width; depth = shelf_height l.height depth; aligned = depth }) q = cc in
        rw (← is) (refl, height_enough l.height depth)
    go false e = cc

  wide : (side aligned : ℕ) → side ≤ aligned → q.width ≡ aligned → side ≤ q.width
  wide side aligned h is = omega arith

  deep : (side aligned : ℕ) → side ≤ aligned → aligned ≤ q.depth → side ≤ q.depth
  deep side aligned h k = omega arith

  -- in x and y again
  sides_enough : WithinLimits l → (m n : ℕ) → asked_of l m n ≡ Ok q
      → (m ≤ first_axis l.vertical q.width q.depth) × (n ≤ second_axis l.vertical q.width q.depth)
  unfolding asked_of first_axis second_axis
  sides_enough within m n = go (eqb l.vertical 1) where
    x : m ≤ round_up l.align_width m
    x = (rounds_up l.align_width m within.options.align_width_least).enough

    y : n ≤ round_up l.align_height n
    y = (rounds_up l.align_height n within.options.align_height_least).enough

    go : (b : Bool) → asked_within l (pick b (round_up l.align_height n) (round_up l.align_width m)) (pick b (round_up l.align_width m) (round_up l.align_height n)) ≡ Ok q
        → (m ≤ pick b q.depth q.width) × (n ≤ pick b q.width q.depth)
    go true e = let (w, d) = asked_sides (round_up l.align_height n) (round_up l.align_width m) e in (deep m _ x d, wide n _ y w)
    go false e = let (w, d) = asked_sides (round_up l.align_width m) (round_up l.align_height n) e in (wide m _ x w, deep n _ y d)

  pub covers_raw : WithinLimits l → (w height : ℤ) (v : Live) → asked l w height ≡ Ok q → Enough l q v → Covered w height v
  unfolding asked judged
  covers_raw within w height v e enough = go (side_of w) (side_of height) refl refl e where
    go : (s t : Option ℕ) → side_of w ≡ s → side_of height ≡ t → judged l s t ≡ Ok q → Covered w height v
    go (Some m) (Some n) a b e =
        let (x, y) = sides_enough within m n e in
        record { x_side = m; y_side = n; w_is = side_is w m a; height_is = side_is height n b; x_covered = omega (arith, enough.x); y_covered = omega (arith, enough.y) }
    go (Some m) None a b e = cc
    go None t a b e = cc
