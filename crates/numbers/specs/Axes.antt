-- The two axes: along the shelves, and deep across them. Without vertical shelves along is x; "with them x and y change places on the way in
-- and out". Assumes nothing.
use Rattle.std.specs.Prelude.{◌≡◌}
use Rattle.numbers.specs.Library.{ℕ, refl, Bool, true, false, eqb}
use Rattle.numbers.specs.Pick.{pick}

-- on the way in, of x and y the number along the shelves; on the way out, of along and deep the number for x
unfoldable pub first_axis : ℕ → ℕ → ℕ → ℕ
first_axis vertical p q = pick (eqb vertical 1) q p

-- on the way in, of x and y the number across the shelves; on the way out, of along and deep the number for y
unfoldable pub second_axis : ℕ → ℕ → ℕ → ℕ
second_axis vertical p q = pick (eqb vertical 1) p q

-- what went in comes out again
pub in_and_out : (vertical x y : ℕ)
    → (first_axis vertical (first_axis vertical x y) (second_axis vertical x y) ≡ x)
    × (second_axis vertical (first_axis vertical x y) (second_axis vertical x y) ≡ y)
unfolding first_axis second_axis
in_and_out vertical x y = go (eqb vertical 1) where
  go : (b : Bool) → (pick b (pick b x y) (pick b y x) ≡ x) × (pick b (pick b y x) (pick b x y) ≡ y)
  go true = (refl, refl)
  go false = (refl, refl)
