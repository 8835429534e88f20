-- The step of a depth, and the depth of a shelf made for it. Assumes nothing.
use Rattle.std.specs.Prelude.{◌<◌, ◌≤◌, ◌≡◌}
use Rattle.numbers.specs.Library.{ℕ, refl, Bool, true, false, arith, dec_lt, leb, lit<, le-leb, lt-leb}
use Rattle.std.proofs.Common.{lit≤}
use Rattle.numbers.specs.Pick.{pick, pick_yes, pick_no}
use Rattle.numbers.specs.Round.{round_up, rounds_up}

-- the four bands of depths: to 31, 32 to 127, 128 to 511, 512 and more
unfoldable pub depth_band : ℕ → ℕ
depth_band d = pick (leb d 31) 0 (pick (leb d 127) 1 (pick (leb d 511) 2 3))

-- 8 (depth to 31), 16 (32 to 127), 32 (128 to 511) or 64 (512 and more)
unfoldable pub depth_step : ℕ → ℕ
depth_step d = pick (leb d 31) 8 (pick (leb d 127) 16 (pick (leb d 511) 32 64))

-- a depth rounded up to its step; where that passes the atlas's depth, it stays unrounded
unfoldable pub shelf_height : ℕ → ℕ → ℕ
unfolding round_up depth_step
shelf_height atlasDepth d =
    pick (leb (round_up (depth_step d) d) atlasDepth) (round_up (depth_step d) d) d

-- there are four bands
pub four_bands : (d : ℕ) → depth_band d < 4
unfolding depth_band
four_bands d = go (leb d 31) (leb d 127) (leb d 511) where
  go : (a b c : Bool) → pick a 0 (pick b 1 (pick c 2 3)) < 4
  go true b c = lit< tt
  go false true c = lit< tt
  go false false true = lit< tt
  go false false false = lit< tt

-- every step is at least 1
pub some_step : (d : ℕ) → 1 ≤ depth_step d
unfolding depth_step
some_step d = go (leb d 31) (leb d 127) (leb d 511) where
  go : (a b c : Bool) → 1 ≤ pick a 8 (pick b 16 (pick c 32 64))
  go true b c = lit≤ tt
  go false true c = lit≤ tt
  go false false true = lit≤ tt
  go false false false = lit≤ tt

module _ (atlasDepth d r : ℕ) (rounded : r ≡ round_up (depth_step d) d) where
  pub height_rounded : r ≤ atlasDepth → shelf_height atlasDepth d ≡ r
  unfolding shelf_height
  height_rounded h = rw (← rounded) (pick_yes r d (le-leb r atlasDepth h))

  pub height_kept : atlasDepth < r → shelf_height atlasDepth d ≡ d
  unfolding shelf_height
  height_kept h = rw (← rounded) (pick_no r d (lt-leb r atlasDepth h))

-- a shelf is at least as deep as asked, and stays within an atlas that has the depth asked
pub height_enough : (atlasDepth d : ℕ) → d ≤ shelf_height atlasDepth d
height_enough atlasDepth d = go (dec_lt atlasDepth (round_up (depth_step d) d)) where
  go : Dec (atlasDepth < round_up (depth_step d) d) → d ≤ shelf_height atlasDepth d
  go (yes h) = rw (height_kept atlasDepth d _ refl h) (omega arith)
  go (no h) = rw (height_rounded atlasDepth d _ refl (omega arith)) (rounds_up (depth_step d) d (some_step d)).enough

pub height_within : (atlasDepth d : ℕ) → d ≤ atlasDepth → shelf_height atlasDepth d ≤ atlasDepth
height_within atlasDepth d fits = go (dec_lt atlasDepth (round_up (depth_step d) d)) where
  go : Dec (atlasDepth < round_up (depth_step d) d) → shelf_height atlasDepth d ≤ atlasDepth
  go (yes h) = rw (height_kept atlasDepth d _ refl h) fits
  go (no h) = rw (height_rounded atlasDepth d _ refl (omega arith)) (omega arith)
