-- A grant keeps the shape of an atlas: in a shelf, whole or in part, and where the shelf is split before. Assumes nothing.
use Rattle.std.specs.Prelude.{◌<◌, ◌≤◌, ◌+◌, ◌%◌, ◌≡◌, ◌⊎◌, ◌&&◌, ◌∷◌}
use Rattle.numbers.specs.Library.{ℕ, refl, sym, ap, subst, inl, inr, ⊎_elim, Bool, true, false, not, and-false, List, []}
use Rattle.numbers.specs.Library.{List·Memᴰ·head, List·Memᴰ·cases-cons, Memᴰ·append-right, arith, ltb, ltb-true}
use Rattle.numbers.specs.declared.{limits.Limits.Limits, request.Asked.Asked}
use Rattle.chains.specs.Prelude.{◌∈◌, Neighbours, Focus, back_onto}
use Rattle.chains.proofs.Prelude.{not_out, onto_apart, in_onto, onto_in, each_split}
use Rattle.numbers.specs.Prelude.{along_step, WithinLimits, both, Placeable}
use Rattle.rules.specs.Prelude.{Item, Shelf, Rows, Atlas, Room, is_empty_of, new_item_row, splits_shelf, upper_part, lower_part, splits_item, granted_item, rest_of}
use Rattle.rules.specs.Prelude.{replace_row, holding, grant_whole, grant_part, shelf_taken, item_taken, grant_item, grant, free_rows, Stacked, Filled, NotBothFree}
use Rattle.rules.specs.Prelude.{NotBothEmpty, Shaped, WellFormed}
use Rattle.laws.specs.Places.{Spot, Chosen}
use Rattle.laws.proofs.Shape.Around.{Behind, neighbours_split, neighbours_join, neighbours_after, behind_map, behind_any, ahead_map, ahead_any}
use Rattle.laws.proofs.Shape.Geometry.{filled_onto, filled_part, stacked_split, joins_before, joins_after, joins_alike, joined_alike, Right, Laid, laid}
use Rattle.laws.proofs.Shape.Geometry.{shaped, laid_at}
use Rattle.rules.proofs.LiveRows.{free_row}
use Rattle.laws.proofs.Shape.Listed.{row_of, free_of, stays_listed, new_listed}
use Rattle.laws.proofs.Shape.Granting.{Grants, place_so, grant_so}

-- ---- a shelf with an item granted is in use

pub two : (bs : List Item) (x y : Item) (ys : List Item) → is_empty_of (back_onto bs (x ∷ y ∷ ys)) ≡ false
unfolding is_empty_of
two [] x y ys = refl
two (b ∷ bs) x y ys = two bs b x (y ∷ ys)

pub in_use : (bs : List Item) (i : Item) (ys : List Item) → i.live ≡ true → is_empty_of (back_onto bs (i ∷ ys)) ≡ false
unfolding is_empty_of
in_use [] i [] e = ap not e
in_use [] i (y ∷ ys) e = refl
in_use (b ∷ bs) i ys e = two bs b i ys

-- ---- the shelf with an item granted

module _ (l : Limits) (s : Shelf) (w : Focus Item) (right : Right l s) (spot : Spot s w) where
  abbrev i : Item
  i = w.this

  -- the other free items are listed still
  others : (new : List ℕ) (r : ℕ) → (r ∈ free_rows w.before) ⊎ (r ∈ free_rows w.after) → r ∈ replace_row i.row new s.free
  others new r o =
      let (db, dy, apart) = onto_apart row_of w.before (i ∷ w.after) spot.once in
      let was : (r ∈ free_rows w.before) ⊎ (r ∈ free_rows (i ∷ w.after)) → r ∈ s.free =
      λ q. right.all_listed r (rw spot.stands (in_onto free_of r w.before (i ∷ w.after) q)) in
      ⊎_elim
      (λ k. stays_listed i.row new s.free r (λ e. apart r (free_row w.before r k) (List·Memᴰ·head e)) (was (inl k)))
      (λ k. stays_listed i.row new s.free r (not_out dy.0 (free_row w.after r k)) (was (inr (Memᴰ·append-right (free_of i) k))))
      o

  apart_at : Behind NotBothFree w.before i × Neighbours NotBothFree (i ∷ w.after)
  apart_at = neighbours_split NotBothFree w.before i w.after (rw spot.stands at right.free_apart)

  pub whole_right : Right l (grant_whole s w)
  unfolding grant_whole granted_item holding Filled
  whole_right = record {
    filled = filled_onto l (i ∷ w.after) (granted_item i i.width ∷ w.after) (s.x + l.shelf_width) (λ x q. q) w.before s.x (rw spot.stands at right.filled);
    free_apart = neighbours_join NotBothFree w.before (granted_item i i.width) w.after
        (behind_any NotBothFree w.before i (granted_item i i.width) (λ b. and-false (not b.live)) apart_at.0)
        (ahead_any NotBothFree (granted_item i i.width) w.after (λ b. refl) (neighbours_after NotBothFree i w.after apart_at.1));
    all_listed = λ r m. others [] r (onto_in free_of r w.before (granted_item i i.width ∷ w.after) m);
  }

  pub part_right : (r : Rows) (width : ℕ) → 1 ≤ width → width < i.width → width % along_step l ≡ 0 → Right l (grant_part r s w width)
  unfolding grant_part granted_item rest_of holding
  part_right r width least less step = record {
    filled = filled_onto l (i ∷ w.after) (granted_item i width ∷ rest_of r i width ∷ w.after) (s.x + l.shelf_width)
        (filled_part l r i width w.after (s.x + l.shelf_width) least less step) w.before s.x (rw spot.stands at right.filled);
    free_apart = neighbours_join NotBothFree w.before (granted_item i width) (rest_of r i width ∷ w.after)
        (behind_any NotBothFree w.before i (granted_item i width) (λ b. and-false (not b.live)) apart_at.0)
        (refl, ahead_map NotBothFree i (rest_of r i width) w.after (λ b q. subst (λ (z : Bool). not z && not b.live ≡ false) spot.free q) apart_at.1);
    all_listed = λ q m.
        ⊎_elim (λ k. others (new_item_row r ∷ []) q (inl k))
        (λ k. ⊎_elim (λ e. new_listed i.row (new_item_row r ∷ []) s.free q spot.listed (List·Memᴰ·head e)) (λ k'. others (new_item_row r ∷ []) q (inr k')) (List·Memᴰ·cases-cons k))
        (onto_in free_of q w.before (granted_item i width ∷ rest_of r i width ∷ w.after) m);
  }

-- ---- in the atlas

-- a shelf that is given other items and is then in use
in_shelf : (l : Limits) → WithinLimits l → (bs : List Shelf) (s : Shelf) (below : List Shelf) (rows : Rows) (items : List Item) (free : List ℕ)
    → is_empty_of items ≡ false → Right l (holding s items free)
    → Laid l (back_onto bs (s ∷ below)) → Behind NotBothEmpty bs s → Neighbours NotBothEmpty below
    → Shaped (record { limits = l; shelves = back_onto bs (holding s items free ∷ below); rows = rows })
unfolding holding Stacked
in_shelf l lim bs s below rows items free used right k behind ahead =
    shaped (record { limits = l; shelves = back_onto bs (holding s items free ∷ below); rows = rows }) lim
    (laid_at l bs s (holding s items free) below below refl (λ c y q. q) (λ e. (right, e.1)) k)
    (neighbours_join NotBothEmpty bs (holding s items free) below
    (behind_any NotBothEmpty bs s (holding s items free) (λ b. joins_before b (holding s items free) used) behind)
    (ahead_any NotBothEmpty (holding s items free) below (λ b. joins_after (holding s items free) b used) ahead))

-- the item of a shelf granted, where the shelf and what follows it are laid right
module _ (a : Atlas) (asked : Asked) (lim : WithinLimits a.limits) (fits : Placeable a.limits asked) where
  placed : (f : Focus Shelf) (w : Focus Item) (below : List Shelf) (r : Rows) → Spot f.this w → Right a.limits f.this
      → Laid a.limits (back_onto f.before (f.this ∷ below)) → Behind NotBothEmpty f.before f.this → Neighbours NotBothEmpty below
      → Grants (λ live a'. Shaped a') (grant_item a asked f w below r)
  unfolding splits_item grant_part grant_whole granted_item
  placed f w below r spot right k behind ahead =
      place_so a asked (Grants (λ live a'. Shaped a')) f w below r
      (λ e. in_shelf a.limits lim f.before f.this below (item_taken r) _ _
      (two w.before (granted_item w.this asked.width) (rest_of r w.this asked.width) w.after)
      (part_right a.limits f.this w right spot r asked.width fits.some_width (omega (arith, ltb-true (asked.width + 8) w.this.width e)) fits.aligned)
      k behind ahead)
      (λ e. in_shelf a.limits lim f.before f.this below r _ _ (in_use w.before (granted_item w.this w.this.width) w.after refl)
      (whole_right a.limits f.this w right spot) k behind ahead)

  -- a shelf in two parts, each laid right
  split_laid : (r : Rows) (bs : List Shelf) (s : Shelf) (ys : List Shelf) → asked.depth < s.depth
      → Laid a.limits (back_onto bs (s ∷ ys)) → Laid a.limits (back_onto bs (upper_part asked.depth s ∷ lower_part a.limits r asked.depth s ∷ ys))
  unfolding upper_part lower_part Filled
  split_laid r bs s ys less k =
      laid_at a.limits bs s (upper_part asked.depth s) ys (lower_part a.limits r asked.depth s ∷ ys) refl
      (stacked_split a.limits r asked.depth s ys fits.some_depth less)
      (λ e. (
        record { filled = e.0.filled; free_apart = e.0.free_apart; all_listed = e.0.all_listed },
        (record { filled = (refl, lim.s_least, lim.s_aligned, refl); free_apart = tt; all_listed = λ q m. m }, e.1),
      ))
      k

  module _ (room : Room) (formed : WellFormed room a) where
    here : (f : Focus Shelf) → a.shelves ≡ back_onto f.before (f.this ∷ f.after) → Right a.limits f.this
    here f e = (each_split (Right a.limits) f.before (f.this ∷ f.after) (rw e at (laid a formed.shaped).right)).1.0

    around : (f : Focus Shelf) → a.shelves ≡ back_onto f.before (f.this ∷ f.after) → Behind NotBothEmpty f.before f.this × Neighbours NotBothEmpty (f.this ∷ f.after)
    around f e = neighbours_split NotBothEmpty f.before f.this f.after (rw e at formed.shaped.empty_apart)

    unsplit_shaped : (f : Focus Shelf) (w : Focus Item) → Chosen a asked f w → splits_shelf asked f.this ≡ false → Grants (λ live a'. Shaped a') (grant_item a asked f w f.after a.rows)
    unsplit_shaped f w c e =
        placed f w f.after a.rows c.spot (here f c.stands) (rw c.stands at (laid a formed.shaped))
        (around f c.stands).0 (neighbours_after NotBothEmpty f.this f.after (around f c.stands).1)

    split_shaped : (f : Focus Shelf) (w : Focus Item) → Chosen a asked f w → splits_shelf asked f.this ≡ true
        → Grants (λ live a'. Shaped a') (grant_item a asked (record { before = f.before; this = upper_part asked.depth f.this; after = f.after }) w
        (lower_part a.limits a.rows asked.depth f.this ∷ f.after) (item_taken (shelf_taken a.rows)))
    unfolding splits_shelf upper_part lower_part is_empty_of
    split_shaped f w c e =
        let s : Shelf = f.this in
        let d : ℕ = asked.depth in
        let (empty, large) = both (is_empty_of s.items) (ltb (d + 8) s.depth) e in
        let less : d < s.depth = omega (arith, ltb-true (d + 8) s.depth large) in
        placed (record { before = f.before; this = upper_part d s; after = f.after }) w (lower_part a.limits a.rows d s ∷ f.after) (item_taken (shelf_taken a.rows))
        (record { stands = c.spot.stands; once = c.spot.once; listed = c.spot.listed; free = c.spot.free })
        (let r : Right a.limits s = here f c.stands in record { filled = r.filled; free_apart = r.free_apart; all_listed = r.all_listed })
        (split_laid a.rows f.before s f.after less (rw c.stands at (laid a formed.shaped)))
        (behind_map NotBothEmpty f.before s (upper_part d s) (λ b q. joined_alike s (upper_part d s) b refl refl q) (around f c.stands).0)
        (ahead_map NotBothEmpty s (lower_part a.limits a.rows d s) f.after (λ b q. joins_alike s (lower_part a.limits a.rows d s) b (sym empty) refl q) (around f c.stands).1)

    pub grant_shape : Grants (λ live a'. Shaped a') (grant room a asked)
    grant_shape = grant_so room a formed.sound asked (Grants (λ live a'. Shaped a')) (λ e. tt) tt split_shaped unsplit_shaped
