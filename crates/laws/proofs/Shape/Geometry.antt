-- The rules of shelves in columns and of items along a shelf, at one place of each. Assumes nothing.
use Rattle.std.specs.Prelude.{◌<◌, ◌≤◌, ◌+◌, ◌-◌, ◌*◌, ◌%◌, ◌≡◌, ◌&&◌, ◌∷◌}
use Rattle.numbers.specs.Library.{ℕ, ap, ◌∙◌, Bool, true, false, and-false, List, [], arith, eqb, ne_eqb}
use Rattle.numbers.specs.Library.{eqb-true}
use native.Mathlib.Nat.{dvd-sub, dvd-add, dvd_of_mod-eq-zero, mod-eq-zero_of_dvd}
use Rattle.numbers.specs.Prelude.{pick, along_step, WithinLimits, both}
use Rattle.numbers.specs.declared.limits.Limits.{Limits}
use Rattle.chains.specs.Prelude.{Each, Neighbours, back_onto, first_row}
use Rattle.chains.proofs.Prelude.{each_split, each_join, first_onto, each_map, each_both}
use Rattle.rules.specs.Prelude.{Item, Shelf, Rows, Atlas, is_empty_of, granted_item, rest_of, upper_part, lower_part, free_with, deeper, joins, shelf, Stacked, Filled}
use Rattle.rules.specs.Prelude.{NotBothFree, NotBothEmpty, AllListed, Shaped}
use Rattle.laws.proofs.Shape.Around.{pick_map}

-- ---- items along a shelf

module _ (l : Limits) where
  -- what stands before a place does not see what stands after it
  pub filled_onto : (us vs : List Item) (end : ℕ) → ((x : ℕ) → Filled l x end us → Filled l x end vs)
      → (bs : List Item) (x : ℕ) → Filled l x end (back_onto bs us) → Filled l x end (back_onto bs vs)
  unfolding Filled
  filled_onto us vs end h [] x q = h x q
  filled_onto us vs end h (b ∷ bs) x q = filled_onto (b ∷ us) (b ∷ vs) end (λ x q. (q.0, q.1, q.2, h (x + b.width) q.3)) bs x q

  -- an item in two parts
  pub filled_part : (r : Rows) (i : Item) (width : ℕ) (ia : List Item) (end : ℕ) → 1 ≤ width → width < i.width → width % along_step l ≡ 0
      → (x : ℕ) → Filled l x end (i ∷ ia) → Filled l x end (granted_item i width ∷ rest_of r i width ∷ ia)
  unfolding Filled granted_item rest_of
  filled_part r i width ia end least less step x q =
      let at : x + i.width ≡ x + width + (i.width - width) = omega arith in (
        q.0,
        least,
        step,
        (
          ap (λ (z : ℕ). z + width) q.0,
          omega arith,
          mod-eq-zero_of_dvd (along_step l) (dvd-sub (along_step l) (dvd_of_mod-eq-zero (along_step l) q.2) (dvd_of_mod-eq-zero (along_step l) step)),
          (rw at at q.3),
        ),
      )

  -- two items in one
  pub filled_join : (i n : Item) (ia : List Item) (end : ℕ) → (x : ℕ) → Filled l x end (i ∷ n ∷ ia) → Filled l x end (free_with i (i.width + n.width) ∷ ia)
  unfolding Filled free_with
  filled_join i n ia end x q =
      let at : x + i.width + n.width ≡ x + (i.width + n.width) = omega arith in (
        q.0,
        omega (arith, q.1),
        mod-eq-zero_of_dvd (along_step l) (dvd-add (along_step l) (dvd_of_mod-eq-zero (along_step l) q.2) (dvd_of_mod-eq-zero (along_step l) q.3.2)),
        (rw at at q.3.3),
      )

-- ---- shelves in columns

module _ (l : Limits) where
  pub stacked_onto : (us vs : List Shelf) → ((c y : ℕ) → Stacked l c y us → Stacked l c y vs)
      → (bs : List Shelf) (c y : ℕ) → Stacked l c y (back_onto bs us) → Stacked l c y (back_onto bs vs)
  unfolding Stacked
  stacked_onto us vs h [] c y s = h c y s
  stacked_onto us vs h (b ∷ bs) c y s =
      stacked_onto (b ∷ us) (b ∷ vs)
      (λ c y q. (q.0, q.1, q.2, q.3, pick_map (eqb (y + b.depth) l.height) _ _ _ _ (h (c + 1) 0) (h c (y + b.depth)) q.4))
      bs c y s

  -- a shelf in two parts
  pub stacked_split : (r : Rows) (d : ℕ) (s : Shelf) (ys : List Shelf) → 1 ≤ d → d < s.depth
      → (c y : ℕ) → Stacked l c y (s ∷ ys) → Stacked l c y (upper_part d s ∷ lower_part l r d s ∷ ys)
  unfolding Stacked upper_part lower_part
  stacked_split r d s ys least less c y q =
      let at : y + s.depth ≡ y + d + (s.depth - d) = omega arith in
      let go : (s.x ≡ c * l.shelf_width) × (s.y + d ≡ y + d) × (1 ≤ s.depth - d) × (y + d + (s.depth - d) ≤ l.height)
      × pick (eqb (y + d + (s.depth - d)) l.height) (Stacked l (c + 1) 0 ys) (Stacked l c (y + d + (s.depth - d)) ys) =
      (q.0, omega (arith, q.1), omega arith, omega (arith, q.3), (rw at at q.4)) in
      (q.0, q.1, least, omega (arith, q.3), rw (ne_eqb (y + d) l.height (λ e. omega (arith, q.3))) go)

  -- two shelves of a column in one
  pub stacked_join : (s n : Shelf) (ys : List Shelf) → s.x ≡ n.x → 1 ≤ l.shelf_width → (c y : ℕ) → Stacked l c y (s ∷ n ∷ ys) → Stacked l c y (deeper s (s.depth + n.depth) ∷ ys)
  unfolding Stacked deeper
  stacked_join s n ys ex pos c y q = go (eqb (y + s.depth) l.height) q.4 where
    sum : y + s.depth + n.depth ≡ y + (s.depth + n.depth)
    sum = omega arith

    go : (b : Bool) → pick b (Stacked l (c + 1) 0 (n ∷ ys)) (Stacked l c (y + s.depth) (n ∷ ys)) → Stacked l c y (deeper s (s.depth + n.depth) ∷ ys)
    go true w = absurd (omega (arith, ex, q.0, w.0))
    go false w = (q.0, q.1, omega (arith, q.2), omega (arith, w.3), (rw sum at w.4))

-- a shelf in use joins none
pub joins_before : (s t : Shelf) → is_empty_of t.items ≡ false → joins s t ≡ false
unfolding joins
joins_before s t e = rw e (rw (and-false (is_empty_of s.items)))

pub joins_after : (s t : Shelf) → is_empty_of s.items ≡ false → joins s t ≡ false
unfolding joins
joins_after s t e = rw e

-- two that join are empty, and in one column
pub joins_true : (s t : Shelf) → joins s t ≡ true → (is_empty_of s.items ≡ true) × (is_empty_of t.items ≡ true) × (s.x ≡ t.x)
unfolding joins
joins_true s t e =
    let (empties, x) = both (is_empty_of s.items && is_empty_of t.items) (eqb s.x t.x) e in
    let (es, et) = both (is_empty_of s.items) (is_empty_of t.items) empties in
    (es, et, eqb-true s.x t.x x)

-- what joins a shelf joins another that is as empty and in the same column
pub joins_alike : (s s' t : Shelf) → is_empty_of s'.items ≡ is_empty_of s.items → s'.x ≡ s.x → joins s t ≡ false → joins s' t ≡ false
unfolding joins
joins_alike s s' t e ex q = rw (e, ex) q

pub joined_alike : (s s' t : Shelf) → is_empty_of s'.items ≡ is_empty_of s.items → s'.x ≡ s.x → joins t s ≡ false → joins t s' ≡ false
unfolding joins
joined_alike s s' t e ex q = rw (e, ex) q

-- ---- all but one of the rules of shape: that no two empty shelves adjoin is told apart, since a release breaks it half way

pub record Right (l : Limits) (s : Shelf) : Type 0 where
  pub filled : Filled l s.x (s.x + l.shelf_width) s.items
  pub free_apart : Neighbours NotBothFree s.items
  pub all_listed : AllListed s

pub record Laid (l : Limits) (shelves : List Shelf) : Type 0 where
  pub first : first_row (λ (s : Shelf). s.row) shelves ≡ 0
  pub stacked : Stacked l 0 0 shelves
  pub right : Each (Right l) shelves

pub laid : (a : Atlas) → Shaped a → Laid a.limits a.shelves
laid a k =
    let fills : Shelf → Type 0 = λ q. Filled a.limits q.x (q.x + a.limits.shelf_width) q.items in
    let frees : Shelf → Type 0 = λ q. Neighbours NotBothFree q.items in
    record {
      first = k.first;
      stacked = k.stacked;
      right = each_map (λ q. fills q × (frees q × AllListed q)) (Right a.limits) (λ q w. record { filled = w.0; free_apart = w.1.0; all_listed = w.1.1 }) a.shelves
          (each_both fills (λ q. frees q × AllListed q) a.shelves k.filled (each_both frees AllListed a.shelves k.free_apart k.all_listed));
    }

pub shaped : (a : Atlas) → WithinLimits a.limits → Laid a.limits a.shelves → Neighbours NotBothEmpty a.shelves → Shaped a
shaped a w k n = record {
  limits = w;
  first = k.first;
  stacked = k.stacked;
  empty_apart = n;
  filled = each_map (Right a.limits) _ (λ q r. r.filled) a.shelves k.right;
  free_apart = each_map (Right a.limits) _ (λ q r. r.free_apart) a.shelves k.right;
  all_listed = each_map (Right a.limits) AllListed (λ q r. r.all_listed) a.shelves k.right;
}

-- a change at one place
pub laid_at : (l : Limits) (bs : List Shelf) (u v : Shelf) (us vs : List Shelf) → v.row ≡ u.row
    → ((c y : ℕ) → Stacked l c y (u ∷ us) → Stacked l c y (v ∷ vs)) → (Each (Right l) (u ∷ us) → Each (Right l) (v ∷ vs))
    → Laid l (back_onto bs (u ∷ us)) → Laid l (back_onto bs (v ∷ vs))
laid_at l bs u v us vs row st rt k =
    let (rb, ru) = each_split (Right l) bs (u ∷ us) k.right in
    record {
      first = first_onto shelf bs v u vs us row ∙ k.first;
      stacked = stacked_onto l (u ∷ us) (v ∷ vs) st bs 0 0 k.stacked;
      right = each_join (Right l) bs (v ∷ vs) rb (rt ru);
    }
