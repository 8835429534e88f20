-- The rule of any table of bands, rows of a last depth and a step: walked row by row it gives the first band that reaches a depth,
-- or the last one. At our table that is the rule of the document.
use Rattle.std.specs.Prelude.{◌+◌, ◌<◌, ◌≤◌, ◌≡◌, ◌∷◌}
use Rattle.numbers.specs.Library.{ℕ, suc, refl, Bool, true, false, List, [], add-one, arith, leb, get_or, drop, length, drop-cons}
use Rattle.numbers.specs.Library.{le-leb, lt-leb}
use Rattle.numbers.specs.Prelude.{pick, depth_band, depth_step}

-- the first of the bands, numbered from i on, that reaches d
pub band_from : List (List ℕ) → ℕ → ℕ → ℕ
band_from [] i d = i
band_from (row ∷ []) i d = i
band_from (row ∷ next ∷ rows) i d = pick (leb d (get_or row 0 0)) i (band_from (next ∷ rows) (suc i) d)

module _ (t : List (List ℕ)) (d i : ℕ) (more : suc i < length t) where
  pub reached : d ≤ get_or (get_or t i []) 0 0 → band_from (drop i t) i d ≡ i
  unfolding band_from
  reached h = rw (drop-cons t i [] (omega arith), drop-cons t (suc i) [] more, le-leb d (get_or (get_or t i []) 0 0) h)

  pub passed : get_or (get_or t i []) 0 0 < d → band_from (drop i t) i d ≡ band_from (drop (i + 1) t) (i + 1) d
  unfolding band_from
  passed h = rw (add-one, drop-cons t i [] (omega arith), drop-cons t (suc i) [] more, lt-leb d (get_or (get_or t i []) 0 0) h)

abbrev pub bands : List (List ℕ)
bands = (31 ∷ 8 ∷ []) ∷ (127 ∷ 16 ∷ []) ∷ (511 ∷ 32 ∷ []) ∷ (65535 ∷ 64 ∷ []) ∷ []

pub band_rule : (d : ℕ) → band_from bands 0 d ≡ depth_band d
unfolding band_from depth_band
band_rule d = refl

pub last_band : (d : ℕ) → band_from (drop 3 bands) 3 d ≡ 3
unfolding band_from
last_band d = refl

pub step_rule : (d : ℕ) → get_or (get_or bands (depth_band d) []) 1 0 ≡ depth_step d
unfolding depth_band depth_step
step_rule d = go (leb d 31) (leb d 127) (leb d 511) where
  go : (a b c : Bool) → get_or (get_or bands (pick a 0 (pick b 1 (pick c 2 3))) []) 1 0 ≡ pick a 8 (pick b 16 (pick c 32 64))
  go true b c = refl
  go false true c = refl
  go false false true = refl
  go false false false = refl
