-- The answers of the calls that change nothing: look-up, list, totals, size and is_empty; and of a release of an id that names no live item.
-- Assumes nothing.
use Rattle.std.specs.Prelude.{◌+◌, ◌*◌, ◌≤◌, ◌<◌, ◌≡◌, ◌&&◌, ◌∷◌}
use Rattle.numbers.specs.Library.{ℕ, zero, suc, refl, sym, ap, ◌∙◌, Bool, true, false, not, false≢true, Option, none, some, List}
use Rattle.numbers.specs.Library.{[], arith, mul-le-mul, eqb, ne_eqb}
use Rattle.numbers.specs.Prelude.{pick, first_axis, second_axis, space_left}
use Rattle.numbers.specs.declared.limits.Limits.{Limits}
use Rattle.rows.specs.declared.header.Header.{Header}
use Rattle.chains.specs.Prelude.{Each, Neighbours}
use Rattle.rules.specs.Prelude.{Item, Shelf, Atlas, is_empty_of, live_area, occupied, Found, find_live, refused, gives, release, look_up, list, free_space, size_x}
use Rattle.rules.specs.Prelude.{size_y, all_empty, header_of, Filled, NotBothFree, atlas_in, Passes}
use Rattle.laws.proofs.Stored.Reading.{reads, formed}
use Rattle.laws.proofs.Shape.Finding.{FoundAt}
use Rattle.laws.proofs.Shape.Columns.{Placed, stacked_placed}
use Rattle.live_rows.specs.Live.{is_live_of, live_at, is_vacant, LiveRowsThere, rows_listed}
use Rattle.bridge.proofs.Search.LookUp as at-look-up
use Rattle.bridge.proofs.Search.LookUp.{told, LiveSays, live_says}
use Rattle.bridge.proofs.Search.Listing.{list_says}
use Rattle.bridge.proofs.Items.NoWrap.{occupied_within}

-- ---- an id that names a live item, and one that names none

module _ (h : Header) (S I : List ℕ) (p : Passes h S I) (row generation : ℕ) where
  -- the atlas that is met in the tables, and what it says of the id
  abbrev a : Atlas
  a = atlas_in h S I

  says : LiveSays h S I a (reads h S I p) (formed h S I p) row generation (find_live a row generation)
  says = live_says h S I a (reads h S I p) (formed h S I p) row generation

  pub finds_none : is_live_of h I row generation ≡ false → find_live a row generation ≡ none
  finds_none e = go (find_live a row generation) says where
    go : (o : Option Found) → LiveSays h S I a (reads h S I p) (formed h S I p) row generation o → o ≡ none
    go none s = refl
    go (some w) s = absurd (false≢true (sym e ∙ s.0))

  -- the item, and where it stands
  pub finds_live : is_live_of h I row generation ≡ true
      → (w : Found) × (find_live a row generation ≡ some w) × FoundAt row a.shelves a.shelves (some w) × (w.item.this.live ≡ true)
  finds_live e = go (find_live a row generation) refl says where
    go : (o : Option Found) → find_live a row generation ≡ o → LiveSays h S I a (reads h S I p) (formed h S I p) row generation o
        → (w : Found) × (find_live a row generation ≡ some w) × FoundAt row a.shelves a.shelves (some w) × (w.item.this.live ≡ true)
    go none f s = absurd (false≢true (sym s ∙ e))
    go (some w) f s = (w, f, s.1, s.2)

  pub release_none : is_live_of h I row generation ≡ false → release a row generation ≡ refused 8
  unfolding release
  release_none e = rw (finds_none e, release)

  pub look_none : is_live_of h I row generation ≡ false → look_up a row generation ≡ refused 8
  unfolding look_up
  look_none e = rw (finds_none e, look_up)

  pub look_some : is_live_of h I row generation ≡ true → look_up a row generation ≡ gives (live_at h S I row)
  unfolding look_up
  look_some e =
      let (spot, finds, found, live) = finds_live e in
      rw (finds, look_up, told h S I a (reads h S I p) (formed h S I p) spot row found)

module _ (h : Header) (S I : List ℕ) (p : Passes h S I) where
  pub rows_there : LiveRowsThere h S I
  rows_there = at-look-up.rows_there h S I (atlas_in h S I) (reads h S I p) (formed h S I p)

  pub list_is : list (atlas_in h S I) ≡ rows_listed h S I h.used_items
  list_is = list_says h S I (atlas_in h S I) (reads h S I p) (formed h S I p)

  -- ---- totals

  pub occupied_is : occupied (atlas_in h S I).shelves ≡ h.occupied
  unfolding header_of
  occupied_is = sym (ap (λ (q : Header). q.occupied) (reads h S I p).header)

  pub occupied_fits : h.occupied ≤ h.limits.width * h.limits.height
  unfolding atlas_in
  occupied_fits =
      let shape = (formed h S I p).shaped in
      omega (arith, occupied_is, occupied_within (atlas_in h S I).limits shape.limits (atlas_in h S I).shelves shape.stacked shape.filled)

  pub free_is : free_space (atlas_in h S I) ≡ space_left h.limits h.occupied
  unfolding free_space atlas_in
  free_is = ap (λ (n : ℕ). space_left h.limits n) occupied_is

  pub size_x-is : size_x (atlas_in h S I) ≡ pick (eqb h.limits.vertical 1) h.limits.height h.limits.width
  unfolding size_x first_axis atlas_in
  size_x-is = refl

  pub size_y-is : size_y (atlas_in h S I) ≡ pick (eqb h.limits.vertical 1) h.limits.width h.limits.height
  unfolding size_y second_axis atlas_in
  size_y-is = refl

-- ---- an atlas is empty exactly when nothing is occupied, since every item has an area and two free ones never stand side by side

-- the live area of a shelf that its items fill is nothing exactly when it is one free item
module _ (d : ℕ) (some_depth : 1 ≤ d) where
  some_area : (w : ℕ) → 1 ≤ w → 1 ≤ w * d
  some_area w b = omega (arith, mul-le-mul b some_depth)

  one_item : (b : Bool) (w : ℕ) → 1 ≤ w → not b ≡ eqb (pick b (w * d) 0 + 0) 0
  one_item true w b = sym (ne_eqb (w * d + 0) 0 (λ e. omega (arith, some_area w b)))
  one_item false w b = refl

  two_items : (b c : Bool) (v w rest : ℕ) → 1 ≤ v → 1 ≤ w → not b && not c ≡ false → false ≡ eqb (pick b (v * d) 0 + (pick c (w * d) 0 + rest)) 0
  two_items true c v w rest bv bw n = sym (ne_eqb (v * d + (pick c (w * d) 0 + rest)) 0 (λ e. omega (arith, some_area v bv)))
  two_items false true v w rest bv bw n = sym (ne_eqb (0 + (w * d + rest)) 0 (λ e. omega (arith, some_area w bw)))
  two_items false false v w rest bv bw n = absurd (false≢true (sym n))

  shelf_empty : (l : Limits) (x end : ℕ) (is : List Item) → x < end → Filled l x end is → Neighbours NotBothFree is → is_empty_of is ≡ eqb (live_area d is) 0
  unfolding is_empty_of live_area Filled
  shelf_empty l x end [] wide f n = absurd (omega (arith, f))
  shelf_empty l x end (i ∷ []) wide f n = one_item i.live i.width f.1
  shelf_empty l x end (i ∷ j ∷ rest) wide f n = two_items i.live j.live i.width j.width (live_area d rest) f.1 f.3.1 n.0

sum_zero : (m n : ℕ) → eqb m 0 && eqb n 0 ≡ eqb (m + n) 0
sum_zero zero n = let e : n ≡ 0 + n = omega arith in ap (λ (k : ℕ). eqb k 0) e
sum_zero (suc m) n = rw (ne_eqb (suc m) 0 (λ e. omega arith), ne_eqb (suc m + n) 0 (λ e. omega arith))

all_empty_lem : (l : Limits) → 1 ≤ l.shelf_width → (ss : List Shelf) → Each (Placed l) ss
    → Each (λ (s : Shelf). Filled l s.x (s.x + l.shelf_width) s.items) ss → Each (λ (s : Shelf). Neighbours NotBothFree s.items) ss
    → all_empty ss ≡ eqb (occupied ss) 0
unfolding all_empty occupied
all_empty_lem l wide [] p f n = refl
all_empty_lem l wide (s ∷ ss) p f n =
    rw (
      shelf_empty s.depth p.0.2 l s.x (s.x + l.shelf_width) s.items (omega arith) f.0 n.0,
      all_empty_lem l wide ss p.1 f.1 n.1,
    )
    (sum_zero (live_area s.depth s.items) (occupied ss))

pub empty_is : (h : Header) (S I : List ℕ) (p : Passes h S I) → all_empty (atlas_in h S I).shelves ≡ is_vacant h
unfolding is_vacant
empty_is h S I p =
    let shape = (formed h S I p).shaped in
    all_empty_lem (atlas_in h S I).limits shape.limits.s_least (atlas_in h S I).shelves (stacked_placed (atlas_in h S I).limits 0 0 (atlas_in h S I).shelves shape.stacked) shape.filled shape.free_apart
    ∙ ap (λ (n : ℕ). eqb n 0) (occupied_is h S I p)
