-- Where the items of a shelf lie along it, and the shelves of an atlas in its columns. Assumes nothing.
use Rattle.std.specs.Prelude.{◌+◌, ◌*◌, ◌/◌, ◌≤◌, ◌≡◌, ◌⊎◌, ◌∷◌}
use Rattle.numbers.specs.Library.{ℕ, inl, inr, ⊎_elim, Bool, true, false, List, [], add-mul, mul-le-mul_right}
use Rattle.numbers.specs.Library.{div-mul-le_self, arith, eqb}
use Rattle.numbers.specs.Prelude.{pick, columns}
use Rattle.numbers.specs.declared.limits.Limits.{Limits}
use Rattle.chains.specs.Prelude.{Each}
use Rattle.chains.proofs.Prelude.{each_map}
use Rattle.rules.specs.Prelude.{Item, Shelf, Stacked, Filled}
use Rattle.laws.specs.Lives.{Pairs}

-- ---- where items lie along a shelf

-- from x to the end, each item with a width
abbrev pub Lying : ℕ → ℕ → Item → Type 0
Lying x end i = (x ≤ i.x) × (i.x + i.width ≤ end) × (1 ≤ i.width)

filled_end : (l : Limits) (x end : ℕ) (items : List Item) → Filled l x end items → x ≤ end
unfolding Filled
filled_end l x end [] f = omega arith
filled_end l x end (i ∷ items) f = omega (arith, filled_end l (x + i.width) end items f.3)

pub filled_lying : (l : Limits) (x end : ℕ) (items : List Item) → Filled l x end items → Each (Lying x end) items
unfolding Filled
filled_lying l x end [] f = tt
filled_lying l x end (i ∷ items) f = (
  (omega (arith, f.0), omega (arith, f.0, filled_end l (x + i.width) end items f.3), f.1),
  each_map (Lying (x + i.width) end) (Lying x end) (λ j w. (omega (arith, w.0), w.1, w.2)) items (filled_lying l (x + i.width) end items f.3),
)

abbrev pub Ahead : Item → Item → Type 0
Ahead i j = i.x + i.width ≤ j.x

pub filled_ahead : (l : Limits) (x end : ℕ) (items : List Item) → Filled l x end items → Pairs Ahead items
unfolding Filled
filled_ahead l x end [] f = tt
filled_ahead l x end (i ∷ items) f = (
  each_map (Lying (x + i.width) end) (Ahead i) (λ j w. omega (arith, f.0, w.0)) items (filled_lying l (x + i.width) end items f.3),
  filled_ahead l (x + i.width) end items f.3,
)

-- ---- where shelves lie in columns

-- in a later column, or in this one from y on
abbrev From : Limits → ℕ → ℕ → Shelf → Type 0
From l c y t = ((c + 1) * l.shelf_width ≤ t.x) ⊎ ((c * l.shelf_width ≤ t.x) × (y ≤ t.y))

abbrev pub Later : Limits → Shelf → Shelf → Type 0
Later l s t = (s.x + l.shelf_width ≤ t.x) ⊎ (s.y + s.depth ≤ t.y)

abbrev pub Placed : Limits → Shelf → Type 0
Placed l s = (s.x + l.shelf_width ≤ l.width) × (s.y + s.depth ≤ l.height) × (1 ≤ s.depth)

module _ (l : Limits) where
  next_column : (c : ℕ) → (c + 1) * l.shelf_width ≡ c * l.shelf_width + l.shelf_width
  next_column c = omega (arith, add-mul c 1 l.shelf_width)

  stacked_from : (c y : ℕ) (ss : List Shelf) → Stacked l c y ss → Each (From l c y) ss
  unfolding Stacked
  stacked_from c y [] q = tt
  stacked_from c y (s ∷ ss) q =
      (inr (omega (arith, q.0), omega (arith, q.1)), go (eqb (y + s.depth) l.height) (stacked_from (c + 1) 0 ss) (stacked_from c (y + s.depth) ss) q.4) where
        go : (b : Bool) → (Stacked l (c + 1) 0 ss → Each (From l (c + 1) 0) ss) → (Stacked l c (y + s.depth) ss → Each (From l c (y + s.depth)) ss)
            → pick b (Stacked l (c + 1) 0 ss) (Stacked l c (y + s.depth) ss) → Each (From l c y) ss
        go true f g w = each_map (From l (c + 1) 0) (From l c y) (λ t o. inl (⊎_elim (λ e. omega (arith, next_column (c + 1))) (λ e. e.0) o)) ss (f w)
        go false f g w = each_map (From l c (y + s.depth)) (From l c y) (λ t o. ⊎_elim (λ e. inl e) (λ e. inr (e.0, omega (arith, e.1))) o) ss (g w)

  pub stacked_later : (c y : ℕ) (ss : List Shelf) → Stacked l c y ss → Pairs (Later l) ss
  unfolding Stacked
  stacked_later c y [] q = tt
  stacked_later c y (s ∷ ss) q =
      go (eqb (y + s.depth) l.height) (stacked_later (c + 1) 0 ss) (stacked_later c (y + s.depth) ss) q.4 where
        go : (b : Bool) → (Stacked l (c + 1) 0 ss → Pairs (Later l) ss) → (Stacked l c (y + s.depth) ss → Pairs (Later l) ss)
            → pick b (Stacked l (c + 1) 0 ss) (Stacked l c (y + s.depth) ss) → Each (Later l s) ss × Pairs (Later l) ss
        go true f g w = (
          each_map (From l (c + 1) 0) (Later l s)
              (λ t o. inl (⊎_elim (λ e. omega (arith, q.0, next_column c, next_column (c + 1))) (λ e. omega (arith, q.0, next_column c, e.0)) o)) ss (stacked_from (c + 1) 0 ss w),
          f w,
        )
        go false f g w = (
          each_map (From l c (y + s.depth)) (Later l s)
              (λ t o. ⊎_elim (λ e. inl (omega (arith, q.0, next_column c))) (λ e. inr (omega (arith, q.1, e.1))) o) ss (stacked_from c (y + s.depth) ss w),
          g w,
        )

  -- no column stands after the last
  stacked_columns : (c y : ℕ) (ss : List Shelf) → Stacked l c y ss → (c ≤ columns l) × (1 ≤ y → c + 1 ≤ columns l)
  unfolding Stacked
  stacked_columns c y [] q = (omega (arith, q.0), λ h. absurd (omega (arith, q.1)))
  stacked_columns c y (s ∷ ss) q =
      go (eqb (y + s.depth) l.height) (stacked_columns (c + 1) 0 ss) (stacked_columns c (y + s.depth) ss) q.4 where
        go : (b : Bool) → (Stacked l (c + 1) 0 ss → (c + 1 ≤ columns l) × (1 ≤ 0 → c + 1 + 1 ≤ columns l))
            → (Stacked l c (y + s.depth) ss → (c ≤ columns l) × (1 ≤ y + s.depth → c + 1 ≤ columns l))
            → pick b (Stacked l (c + 1) 0 ss) (Stacked l c (y + s.depth) ss) → (c ≤ columns l) × (1 ≤ y → c + 1 ≤ columns l)
        go true f g w = (omega (arith, (f w).0), λ h. (f w).0)
        go false f g w = ((g w).0, λ h. (g w).1 (omega arith))

  -- a column that is there lies within the width
  column_within : (c : ℕ) → c + 1 ≤ columns l → c * l.shelf_width + l.shelf_width ≤ l.width
  unfolding columns
  column_within c h =
      let most : (c + 1) * l.shelf_width ≤ l.width / l.shelf_width * l.shelf_width = mul-le-mul_right l.shelf_width h in
      omega (arith, next_column c, div-mul-le_self l.width l.shelf_width)

  pub stacked_placed : (c y : ℕ) (ss : List Shelf) → Stacked l c y ss → Each (Placed l) ss
  unfolding Stacked
  stacked_placed c y [] q = tt
  stacked_placed c y (s ∷ ss) q =
      go (eqb (y + s.depth) l.height) (stacked_placed (c + 1) 0 ss) (stacked_placed c (y + s.depth) ss) q.4 where
        here : c + 1 ≤ columns l → Placed l s
        here h = (omega (arith, q.0, column_within c h), omega (arith, q.1, q.3), q.2)

        go : (b : Bool) → (Stacked l (c + 1) 0 ss → Each (Placed l) ss) → (Stacked l c (y + s.depth) ss → Each (Placed l) ss)
            → pick b (Stacked l (c + 1) 0 ss) (Stacked l c (y + s.depth) ss) → Placed l s × Each (Placed l) ss
        go true f g w = (here (stacked_columns (c + 1) 0 ss w).0, f w)
        go false f g w = (here ((stacked_columns c (y + s.depth) ss w).1 (omega (arith, q.2))), g w)
