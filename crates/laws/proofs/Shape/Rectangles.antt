-- The live rectangles of an atlas that is in shape lie inside it, and no two share a pixel; occupied is the sum of their areas; a grant is as large
-- as asked. Assumes nothing.
use Rattle.std.specs.Prelude.{◌+◌, ◌-◌, ◌*◌, ◌≤◌, ◌<◌, ◌≡◌, ◌⊎◌, ◌∷◌, ◌++◌}
use Rattle.numbers.specs.Library.{ℕ, refl, ap, ◌∙◌, inl, inr, ⊎_elim, Bool, true, false, List, [], arith, eqb}
use native.Mathlib.Nat.{mul_comm}
use Rattle.numbers.specs.Prelude.{pick, first_axis, second_axis}
use Rattle.numbers.specs.declared.{limits.Limits.Limits, request.Asked.Asked}
use Rattle.rows.specs.declared.live.Live.{Live}
use Rattle.chains.specs.Prelude.{Each, Focus}
use Rattle.chains.proofs.Prelude.{each_map, each_both}
use Rattle.rules.specs.Prelude.{Item, Shelf, Rows, Atlas, Room, live_area, occupied, upper_part, lower_part, granted_item, shelf_taken, item_taken, live_of, grant_item}
use Rattle.rules.specs.Prelude.{grant, Filled, Sound, Shaped}
use Rattle.laws.specs.Lives.{flat, live_in, lives_on, lives, OneMore, NoPixelShared, Pairs, Inside, Enough, area, areas}
use Rattle.laws.proofs.Shape.Around.{pick_cases}
use Rattle.laws.proofs.Shape.Flat.{each_flat, pairs_map, pairs_with, Across, pairs_flat}
use Rattle.laws.proofs.Shape.Columns.{Lying, filled_lying, Ahead, filled_ahead, Later, Placed, stacked_later, stacked_placed}
use Rattle.laws.proofs.Shape.Granting.{Grants, place_so, grant_so}

-- ---- two rectangles, one of them ahead of the other along the shelves or across them

module _ (l : Limits) where
  apart : (s t : Shelf) (i j : Item) → (i.x + i.width ≤ j.x) ⊎ (s.y + s.depth ≤ t.y) → NoPixelShared (live_of l s i) (live_of l t j)
  unfolding live_of first_axis second_axis
  apart s t i j o x y = go (eqb l.vertical 1) where
    go : (b : Bool)
        → (pick b s.y i.x ≤ x) × (x < pick b (s.y + s.depth) (i.x + i.width)) × (pick b i.x s.y ≤ y) × (y < pick b (i.x + i.width) (s.y + s.depth))
        → (pick b t.y j.x ≤ x) × (x < pick b (t.y + t.depth) (j.x + j.width)) × (pick b j.x t.y ≤ y) × (y < pick b (j.x + j.width) (t.y + t.depth)) → ⊥
    go true p q = ⊎_elim (λ e. omega arith) (λ e. omega arith) o
    go false p q = ⊎_elim (λ e. omega arith) (λ e. omega arith) o

  both_ways : (R : ℕ → ℕ → Type 0) (b : Bool) (p p' q q' : ℕ) → R p p' → R q q' → R (pick b p q) (pick b p' q')
  both_ways R true p p' q q' f g = f
  both_ways R false p p' q q' f g = g

  inside : (s : Shelf) (i : Item) → 1 ≤ i.width → 1 ≤ s.depth → i.x + i.width ≤ l.width → s.y + s.depth ≤ l.height → Inside l (live_of l s i)
  unfolding live_of first_axis second_axis
  inside s i w d hw hd =
      let b : Bool = eqb l.vertical 1 in
      record {
        some_x = both_ways (λ p q. p < q) b s.y (s.y + s.depth) i.x (i.x + i.width) (omega arith) (omega arith);
        some_y = both_ways (λ p q. p < q) b i.x (i.x + i.width) s.y (s.y + s.depth) (omega arith) (omega arith);
        within_x = both_ways (λ p q. p ≤ q) b (s.y + s.depth) l.height (i.x + i.width) l.width hd hw;
        within_y = both_ways (λ p q. p ≤ q) b (i.x + i.width) l.width (s.y + s.depth) l.height hw hd;
      }

  pub enough : (asked : Asked) (s : Shelf) (i : Item) → asked.width ≤ i.width → asked.depth ≤ s.depth → Enough l asked (live_of l s i)
  unfolding live_of first_axis second_axis
  enough asked s i hw hd = record {
    x = both (eqb l.vertical 1) s.y i.x asked.depth asked.width s.depth i.width hd hw;
    y = both (eqb l.vertical 1) i.x s.y asked.width asked.depth i.width s.depth hw hd;
  } where
    both : (b : Bool) (p q m n m' n' : ℕ) → m ≤ m' → n ≤ n' → pick b p q + pick b m n ≤ pick b (p + m') (q + n')
    both true p q m n m' n' h k = omega arith
    both false p q m n m' n' h k = omega arith

  area_is : (s : Shelf) (i : Item) → area (live_of l s i) ≡ i.width * s.depth
  unfolding live_of first_axis second_axis
  area_is s i = go (eqb l.vertical 1) where
    across : s.y + s.depth - s.y ≡ s.depth
    across = omega arith

    along : i.x + i.width - i.x ≡ i.width
    along = omega arith

    go : (b : Bool) → (pick b (s.y + s.depth) (i.x + i.width) - pick b s.y i.x) * (pick b (i.x + i.width) (s.y + s.depth) - pick b i.x s.y) ≡ i.width * s.depth
    go true = rw (across, along) (mul_comm s.depth i.width)
    go false = rw (across, along)

-- ---- all of them

-- what holds of the one record that an item may have
single : (P : Live → Type 0) (l : Limits) (s : Shelf) (i : Item) → P (live_of l s i) → Each P (live_in l s i)
single P l s i p = pick_cases (Each P) i.live (live_of l s i ∷ []) [] (λ e. (p, tt)) (λ e. tt)

module _ (l : Limits) where
  abbrev Fills : Shelf → Type 0
  Fills s = Filled l s.x (s.x + l.shelf_width) s.items

  shelf_inside : (s : Shelf) → Fills s × Placed l s → Each (Inside l) (lives_on l s)
  shelf_inside s w =
      each_flat (live_in l s) (Inside l) s.items
      (each_map (Lying s.x (s.x + l.shelf_width)) (λ i. Each (Inside l) (live_in l s i))
      (λ i q. single (Inside l) l s i (inside l s i q.2 w.1.2 (omega (arith, q.1, w.1.0)) w.1.1))
      s.items (filled_lying l s.x (s.x + l.shelf_width) s.items w.0))

  item_alone : (s : Shelf) (i : Item) → Pairs NoPixelShared (live_in l s i)
  item_alone s i = pick_cases (Pairs NoPixelShared) i.live (live_of l s i ∷ []) [] (λ e. (tt, tt)) (λ e. tt)

  items_across : (s t : Shelf) (i j : Item) → Ahead i j ⊎ (s.y + s.depth ≤ t.y) → Across NoPixelShared (live_in l s i) (live_in l t j)
  items_across s t i j o = single (λ u. Each (NoPixelShared u) (live_in l t j)) l s i (single (NoPixelShared (live_of l s i)) l t j (apart l s t i j o))

  shelf_apart : (s : Shelf) → Fills s → Pairs NoPixelShared (lives_on l s)
  shelf_apart s f =
      pairs_flat (live_in l s) NoPixelShared s.items
      (each_map (Lying s.x (s.x + l.shelf_width)) (λ i. Pairs NoPixelShared (live_in l s i)) (λ i q. item_alone s i) s.items
      (filled_lying l s.x (s.x + l.shelf_width) s.items f))
      (pairs_map Ahead (λ i j. Across NoPixelShared (live_in l s i) (live_in l s j)) (λ i j q. items_across s s i j (inl q)) s.items
      (filled_ahead l s.x (s.x + l.shelf_width) s.items f))

  shelves_across : (s t : Shelf) → Fills s → Fills t → Later l s t → Across NoPixelShared (lives_on l s) (lives_on l t)
  shelves_across s t fs ft o =
      each_flat (live_in l s) (λ u. Each (NoPixelShared u) (lives_on l t)) s.items
      (each_map (Lying s.x (s.x + l.shelf_width)) _
      (λ i p. single (λ u. Each (NoPixelShared u) (lives_on l t)) l s i
      (each_flat (live_in l t) (NoPixelShared (live_of l s i)) t.items
      (each_map (Lying t.x (t.x + l.shelf_width)) _
      (λ j q. single (NoPixelShared (live_of l s i)) l t j (apart l s t i j (⊎_elim (λ e. inl (omega (arith, p.1, q.0))) (λ e. inr e) o)))
      t.items (filled_lying l t.x (t.x + l.shelf_width) t.items ft))))
      s.items (filled_lying l s.x (s.x + l.shelf_width) s.items fs))

module _ (a : Atlas) (shape : Shaped a) where
  pub all_inside : Each (Inside a.limits) (lives a)
  all_inside =
      each_flat (lives_on a.limits) (Inside a.limits) a.shelves
      (each_map (λ s. Fills a.limits s × Placed a.limits s) _ (shelf_inside a.limits) a.shelves
      (each_both (Fills a.limits) (Placed a.limits) a.shelves shape.filled (stacked_placed a.limits 0 0 a.shelves shape.stacked)))

  pub all_apart : Pairs NoPixelShared (lives a)
  all_apart =
      pairs_flat (lives_on a.limits) NoPixelShared a.shelves
      (each_map (Fills a.limits) _ (shelf_apart a.limits) a.shelves shape.filled)
      (pairs_with (Fills a.limits) (Later a.limits) _ (shelves_across a.limits) a.shelves shape.filled (stacked_later a.limits 0 0 a.shelves shape.stacked))

-- ---- the sum of their areas

areas_append : (xs ys : List Live) → areas (xs ++ ys) ≡ areas xs + areas ys
areas_append [] ys = omega arith
areas_append (v ∷ xs) ys = omega (arith, areas_append xs ys)

shelf_area : (l : Limits) (s : Shelf) (items : List Item) → live_area s.depth items ≡ areas (flat (live_in l s) items)
unfolding live_area
shelf_area l s [] = refl
shelf_area l s (i ∷ items) =
    omega (arith, areas_append (live_in l s i) (flat (live_in l s) items), shelf_area l s items, one i.live) where
      one : (b : Bool) → areas (pick b (live_of l s i ∷ []) []) ≡ pick b (i.width * s.depth) 0
      one true = omega (arith, area_is l s i)
      one false = refl

pub occupied_is : (l : Limits) (shelves : List Shelf) → occupied shelves ≡ areas (flat (lives_on l) shelves)
unfolding occupied
occupied_is l [] = refl
occupied_is l (s ∷ shelves) = omega (arith, areas_append (lives_on l s) (flat (lives_on l) shelves), shelf_area l s s.items, occupied_is l shelves)

pub one_more-area : (v : Live) (xs ys : List Live) → OneMore v xs ys → areas ys ≡ areas xs + area v
one_more-area v xs ys o =
    omega (arith, ap areas o.less ∙ areas_append o.before o.after, ap areas o.more ∙ areas_append o.before (v ∷ o.after))

-- ---- a grant is as large as asked

placed_enough : (a : Atlas) (asked : Asked) (f : Focus Shelf) (w : Focus Item) (below : List Shelf) (r : Rows) → asked.width ≤ w.this.width → asked.depth ≤ f.this.depth
    → Grants (λ v a'. Enough a.limits asked v) (grant_item a asked f w below r)
unfolding granted_item
placed_enough a asked f w below r wide deep =
    place_so a asked (Grants (λ v a'. Enough a.limits asked v)) f w below r
    (λ e. enough a.limits asked f.this (granted_item w.this asked.width) (omega arith) deep)
    (λ e. enough a.limits asked f.this (granted_item w.this w.this.width) wide deep)

pub grant_enough : (room : Room) (a : Atlas) (asked : Asked) → Sound room a → Grants (λ v a'. Enough a.limits asked v) (grant room a asked)
unfolding upper_part
grant_enough room a asked sound =
    grant_so room a sound asked (Grants (λ v a'. Enough a.limits asked v)) (λ e. tt) tt
    (λ f w c e.
    placed_enough a asked (record { before = f.before; this = upper_part asked.depth f.this; after = f.after }) w
    (lower_part a.limits a.rows asked.depth f.this ∷ f.after) (item_taken (shelf_taken a.rows)) c.wide (omega arith))
    (λ f w c e. placed_enough a asked f w f.after a.rows c.wide c.deep)
