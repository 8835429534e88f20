-- The live rectangles of an atlas, in x and y: which there are, that they lie inside, that no two share a pixel, and their area. Assumes nothing.
use Rattle.std.specs.Prelude.{◌+◌, ◌-◌, ◌*◌, ◌≤◌, ◌<◌, ◌≡◌, ◌∷◌, ◌++◌}
use Rattle.numbers.specs.Library.{ℕ, List, [], ℤ, pos}
use Rattle.numbers.specs.Prelude.{pick, first_axis, second_axis}
use Rattle.numbers.specs.declared.{limits.Limits.Limits, request.Asked.Asked}
use Rattle.rows.specs.declared.live.Live.{Live}
use Rattle.chains.specs.Prelude.{Each}
use Rattle.rules.specs.Prelude.{Item, Shelf, Atlas, live_of}

-- ---- which there are

-- the lists that f gives for the elements, one after the other
abbrev pub flat : {A B : Type 0} → (A → List B) → List A → List B
flat f [] = []
flat f (a ∷ rest) = f a ++ flat f rest

-- the live record of an item that is live
abbrev pub live_in : Limits → Shelf → Item → List Live
live_in l s i = pick i.live (live_of l s i ∷ []) []

abbrev pub lives_on : Limits → Shelf → List Live
lives_on l s = flat (live_in l s) s.items

-- the live records of an atlas, in the order of its shelves and their items
abbrev pub lives : Atlas → List Live
lives a = flat (lives_on a.limits) a.shelves

-- one list is the other with one more record at one place
pub record OneMore (v : Live) (without with_it : List Live) : Type 0 where
  pub before : List Live
  pub after : List Live
  pub less : without ≡ before ++ after
  pub more : with_it ≡ before ++ (v ∷ after)

-- ---- where they lie

-- a rectangle holds its least corner's pixel and not its greatest's
abbrev pub HasPixel : Live → ℕ → ℕ → Type 0
HasPixel v x y = (v.x0 ≤ x) × (x < v.x1) × (v.y0 ≤ y) × (y < v.y1)

abbrev pub NoPixelShared : Live → Live → Type 0
NoPixelShared u v = (x y : ℕ) → HasPixel u x y → HasPixel v x y → ⊥

-- each element and each later one
abbrev pub Pairs : {E : Type 0} → (E → E → Type 0) → List E → Type 0
Pairs R [] = Unit {0}
Pairs R (e ∷ rest) = Each (R e) rest × Pairs R rest

-- inside the atlas, and not empty; W and H are its sizes along the shelves and across them
pub record Inside (l : Limits) (v : Live) : Type 0 where
  pub some_x : v.x0 < v.x1
  pub some_y : v.y0 < v.y1
  pub within_x : v.x1 ≤ first_axis l.vertical l.width l.height
  pub within_y : v.y1 ≤ second_axis l.vertical l.width l.height

-- at least as large as asked, in x and y
pub record Enough (l : Limits) (asked : Asked) (v : Live) : Type 0 where
  pub x : v.x0 + first_axis l.vertical asked.width asked.depth ≤ v.x1
  pub y : v.y0 + second_axis l.vertical asked.width asked.depth ≤ v.y1

-- The sides as they were asked for are whole numbers, and the rectangle is at least as long in x and in y.
pub record Covered (w height : ℤ) (v : Live) : Type 0 where
  pub x_side : ℕ
  pub y_side : ℕ
  pub w_is : w ≡ pos x_side
  pub height_is : height ≡ pos y_side
  pub x_covered : v.x0 + x_side ≤ v.x1
  pub y_covered : v.y0 + y_side ≤ v.y1

-- ---- their area

abbrev pub area : Live → ℕ
area v = (v.x1 - v.x0) * (v.y1 - v.y0)

abbrev pub areas : List Live → ℕ
areas [] = 0
areas (v ∷ rest) = area v + areas rest
