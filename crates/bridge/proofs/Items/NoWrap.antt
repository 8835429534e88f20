-- No sum or product that is stored of an atlas in shape wraps: items end within 16 bits, shelves too, and areas within the largest atlas. Such a
-- shelf or atlas is called narrow. What is occupied is no more than the atlas has. Assumes nothing.
use Rattle.std.specs.Prelude.{◌+◌, ◌*◌, ◌≤◌, ◌≡◌, ◌∷◌}
use Rattle.numbers.specs.Library.{ℕ, refl, ap, Bool, true, false, List, [], add-mul, mul-le-mul, mul-le-mul_right, div-mul-le_self}
use Rattle.numbers.specs.Library.{arith, eqb, eqb-true}
use Rattle.numbers.specs.Prelude.{pick, columns, WithinLimits, most_area}
use Rattle.numbers.specs.declared.limits.Limits.{Limits}
use Rattle.chains.specs.Prelude.{Each, back_onto}
use Rattle.chains.proofs.Prelude.{each_split}
use Rattle.rules.specs.Prelude.{Item, Shelf, Atlas, live_area, occupied, Stacked, Filled, Shaped}
use Rattle.laws.proofs.Shape.Columns.{stacked_placed}

-- ---- what keeps sums from wrapping

unfoldable pub widths : List Item → ℕ
widths [] = 0
widths (i ∷ rest) = i.width + widths rest

-- no sum that is stored of the shelf wraps: where its items end, how wide they are together, where it ends, and its area
pub record NarrowShelf (s : Shelf) : Type 0 where
  pub spans : Each (λ (i : Item). i.x + i.width ≤ 65535) s.items
  pub width : widths s.items ≤ 65535
  pub reach : s.y + s.depth ≤ 65535
  pub area : widths s.items * s.depth ≤ most_area

-- nor one of any shelf, nor what is occupied
pub record Narrow (a : Atlas) : Type 0 where
  pub each : Each NarrowShelf a.shelves
  pub total : occupied a.shelves ≤ most_area

pub widths_onto : (bs ys : List Item) → widths (back_onto bs ys) ≡ widths bs + widths ys
unfolding widths
widths_onto [] ys = omega arith
widths_onto (b ∷ bs) ys = omega (arith, widths_onto bs (b ∷ ys))

-- no item's area is more than its shelf's
pub area_within : (d : ℕ) (bs : List Item) (i : Item) (ys : List Item) → i.width * d ≤ widths (back_onto bs (i ∷ ys)) * d
unfolding widths
area_within d bs i ys = rw (widths_onto bs (i ∷ ys)) (omega (arith, add-mul (widths bs) (i.width + widths ys) d, add-mul i.width (widths ys) d))

-- ---- along a shelf that its items fill

pub filled_widths : (l : Limits) (x end : ℕ) (is : List Item) → Filled l x end is → x + widths is ≡ end
unfolding Filled widths
filled_widths l x end [] f = omega (arith, f)
filled_widths l x end (i ∷ is) f = omega (arith, filled_widths l (x + i.width) end is f.3)

pub filled_spans : (l : Limits) (x end : ℕ) (is : List Item) → Filled l x end is → end ≤ 65535 → Each (λ (i : Item). i.x + i.width ≤ 65535) is
unfolding Filled
filled_spans l x end [] f b = tt
filled_spans l x end (i ∷ is) f b = (omega (arith, f.0, filled_widths l (x + i.width) end is f.3), filled_spans l (x + i.width) end is f.3 b)

-- the live items of a shelf have no more area than all its items
pub live_within : (d : ℕ) (is : List Item) → live_area d is ≤ widths is * d
unfolding live_area widths
live_within d [] = omega arith
live_within d (i ∷ is) = go i.live (live_within d is) where
  go : (b : Bool) → live_area d is ≤ widths is * d → pick b (i.width * d) 0 + live_area d is ≤ (i.width + widths is) * d
  go true h = omega (arith, add-mul i.width (widths is) d)
  go false h = omega (arith, add-mul i.width (widths is) d)

-- ---- down the columns

-- what is occupied from a place on fits into what is left of the columns there
module _ (l : Limits) where
  abbrev w : ℕ
  w = l.shelf_width

  stacked_total : (c y : ℕ) (ss : List Shelf) → Each (λ (s : Shelf). live_area s.depth s.items ≤ w * s.depth) ss → Stacked l c y ss
      → occupied ss + w * (c * l.height + y) ≤ w * (columns l * l.height)
  unfolding Stacked occupied
  stacked_total c y [] e q = omega (arith, ap (λ (k : ℕ). w * (k * l.height)) q.0, ap (λ (k : ℕ). w * k) q.1)
  stacked_total c y (s ∷ ss) e q = go (eqb (y + s.depth) l.height) refl (stacked_total (c + 1) 0 ss e.1) (stacked_total c (y + s.depth) ss e.1) q.4 where
    go : (b : Bool) → eqb (y + s.depth) l.height ≡ b
        → (Stacked l (c + 1) 0 ss → occupied ss + w * ((c + 1) * l.height + 0) ≤ w * (columns l * l.height))
        → (Stacked l c (y + s.depth) ss → occupied ss + w * (c * l.height + (y + s.depth)) ≤ w * (columns l * l.height))
        → pick b (Stacked l (c + 1) 0 ss) (Stacked l c (y + s.depth) ss)
        → live_area s.depth s.items + occupied ss + w * (c * l.height + y) ≤ w * (columns l * l.height)
    go true t f g k = omega (arith, f k, e.0, ap (λ (n : ℕ). w * n) (eqb-true (y + s.depth) l.height t))
    go false t f g k = omega (arith, g k, e.0)

-- ---- an atlas in shape

module _ (l : Limits) (within : WithinLimits l) where
  -- a shelf that lies within the atlas, and whose items fill it
  pub narrow_shelf : (s : Shelf) → (s.x + l.shelf_width ≤ l.width) × (s.y + s.depth ≤ l.height) × (1 ≤ s.depth)
      → Filled l s.x (s.x + l.shelf_width) s.items → NarrowShelf s
  narrow_shelf s p f =
      let wide : s.x + widths s.items ≡ s.x + l.shelf_width = filled_widths l s.x (s.x + l.shelf_width) s.items f in
      let least : widths s.items ≤ l.width = omega (arith, p.0) in
      let deep : s.depth ≤ l.height = omega (arith, p.1) in
      record {
        spans = filled_spans l s.x (s.x + l.shelf_width) s.items f (omega (arith, p.0, within.sizes.w_most));
        width = omega (arith, within.sizes.w_most);
        reach = omega (arith, p.1, within.sizes.h_most);
        area = omega (arith, mul-le-mul least deep, within.sizes.area);
      }

  narrow_each : (ss : List Shelf) → Each (λ (s : Shelf). (s.x + l.shelf_width ≤ l.width) × (s.y + s.depth ≤ l.height) × (1 ≤ s.depth)) ss
      → Each (λ (s : Shelf). Filled l s.x (s.x + l.shelf_width) s.items) ss → Each NarrowShelf ss
  narrow_each [] p f = tt
  narrow_each (s ∷ ss) p f = (narrow_shelf s p.0 f.0, narrow_each ss p.1 f.1)

  live_each : (ss : List Shelf) → Each (λ (s : Shelf). Filled l s.x (s.x + l.shelf_width) s.items) ss → Each (λ (s : Shelf). live_area s.depth s.items ≤ l.shelf_width * s.depth) ss
  live_each [] f = tt
  live_each (s ∷ ss) f =
      let wide : widths s.items ≡ l.shelf_width = omega (arith, filled_widths l s.x (s.x + l.shelf_width) s.items f.0) in
      (omega (arith, live_within s.depth s.items, ap (λ (k : ℕ). k * s.depth) wide), live_each ss f.1)

  -- no more is occupied than the atlas has
  pub occupied_within : (ss : List Shelf) → Stacked l 0 0 ss → Each (λ (s : Shelf). Filled l s.x (s.x + l.shelf_width) s.items) ss → occupied ss ≤ l.width * l.height
  unfolding columns
  occupied_within ss q f =
      omega (arith, stacked_total l 0 0 ss (live_each ss f) q, mul-le-mul_right l.height (div-mul-le_self l.width l.shelf_width))

-- shelves that stand in their columns, within the atlas, and whose items fill them
pub narrow : (a : Atlas) → WithinLimits a.limits → Stacked a.limits 0 0 a.shelves
    → Each (λ (s : Shelf). (s.x + a.limits.shelf_width ≤ a.limits.width) × (s.y + s.depth ≤ a.limits.height) × (1 ≤ s.depth)) a.shelves
    → Each (λ (s : Shelf). Filled a.limits s.x (s.x + a.limits.shelf_width) s.items) a.shelves → Narrow a
narrow a within q p f = record {
  each = narrow_each a.limits within a.shelves p f;
  total = omega (arith, occupied_within a.limits within a.shelves q f, within.sizes.area);
}

-- ---- an atlas in shape, a shelf of it, and an item of that

module _ (a : Atlas) (shape : Shaped a) where
  pub shaped_narrow : Narrow a
  shaped_narrow = narrow a shape.limits shape.stacked (stacked_placed a.limits 0 0 a.shelves shape.stacked) shape.filled

  -- a shelf where it stands
  pub shelf_narrow : (bs : List Shelf) (s : Shelf) (ys : List Shelf) → a.shelves ≡ back_onto bs (s ∷ ys) → NarrowShelf s
  shelf_narrow bs s ys stands = (each_split NarrowShelf bs (s ∷ ys) (rw stands at shaped_narrow.each)).1.0

-- an item of it
pub item_narrow : (s : Shelf) → NarrowShelf s → (ib : List Item) (i : Item) (ia : List Item) → s.items ≡ back_onto ib (i ∷ ia) → i.x + i.width ≤ 65535
item_narrow s n ib i ia e = (each_split (λ (j : Item). j.x + j.width ≤ 65535) ib (i ∷ ia) (rw e at n.spans)).1.0
