-- A grant adds one live rectangle and a release takes one away; the others stay where they are. Assumes nothing.
use Rattle.std.specs.Prelude.{◌+◌, ◌≡◌, ◌∷◌, ◌++◌}
use Rattle.numbers.specs.Library.{ℕ, refl, ap, ◌∙◌, true, false, some, List, [], append_assoc, not-true}
use Rattle.numbers.specs.Prelude.{pick_yes, pick_no, both}
use Rattle.numbers.specs.declared.{limits.Limits.Limits, request.Asked.Asked}
use Rattle.rows.specs.declared.live.Live.{Live}
use Rattle.chains.specs.Prelude.{Focus, back_onto}
use Rattle.rules.specs.Prelude.{Item, Shelf, Rows, Atlas, Room, is_empty_of, splits_shelf, upper_part, lower_part, granted_item, rest_of, holding, grant_whole, grant_part}
use Rattle.rules.specs.Prelude.{shelf_taken, item_taken, live_of, grant_item, grant, Loose, Stack, Found, free_with, deeper, joins, merge_next, merge_into, merge_below}
use Rattle.rules.specs.Prelude.{merge_above, release_found, Sound}
use Rattle.laws.specs.Places.{Spot}
use Rattle.laws.specs.Lives.{flat, live_in, lives_on, lives, OneMore}
use Rattle.laws.proofs.Shape.Flat.{flat_onto, flat_same}
use Rattle.laws.proofs.Shape.Geometry.{joins_true}
use Rattle.laws.proofs.Shape.Finding.{FoundAt}
use Rattle.laws.proofs.Shape.Granting.{Grants, place_so, grant_so}
use Rattle.laws.proofs.Shape.Merging.{loose, items_of, stack, shelves_of, next_cases, into_cases, below_cases, above_cases}

-- ---- one more

-- one more at the place, one more in all
within : (v : Live) (p q xs ys : List Live) → OneMore v xs ys → OneMore v (p ++ (xs ++ q)) (p ++ (ys ++ q))
within v p q xs ys o = record {
  before = p ++ o.before;
  after = o.after ++ q;
  less = rw (o.less, append_assoc o.before o.after q, append_assoc p o.before (o.after ++ q));
  more = rw (o.more, append_assoc o.before (v ∷ o.after) q, append_assoc p o.before (v ∷ (o.after ++ q)));
}

-- ---- in a shelf

module _ (l : Limits) (s : Shelf) where
  pub free_none : (i : Item) → i.live ≡ false → live_in l s i ≡ []
  free_none i e = pick_no (live_of l s i ∷ []) [] e

  live_one_lem : (i : Item) → i.live ≡ true → live_in l s i ≡ live_of l s i ∷ []
  live_one_lem i e = pick_yes (live_of l s i ∷ []) [] e

  -- a shelf of one free stretch
  empty_none : (items : List Item) → is_empty_of items ≡ true → flat (live_in l s) items ≡ []
  unfolding is_empty_of
  empty_none [] e = refl
  empty_none (i ∷ []) e = rw (free_none i (not-true i.live e))
  empty_none (i ∷ j ∷ items) e = cc

  -- a live item put where a free one was
  put_in : (ib : List Item) (i g : Item) (ia ga : List Item) → i.live ≡ false → g.live ≡ true → flat (live_in l s) ga ≡ flat (live_in l s) ia
      → OneMore (live_of l s g) (flat (live_in l s) (back_onto ib (i ∷ ia))) (flat (live_in l s) (back_onto ib (g ∷ ga)))
  put_in ib i g ia ga ei eg same = record {
    before = flat (live_in l s) (back_onto ib []);
    after = flat (live_in l s) ia;
    less = flat_onto (live_in l s) ib (i ∷ ia) ∙ rw (free_none i ei);
    more = flat_onto (live_in l s) ib (g ∷ ga) ∙ rw (live_one_lem g eg, same);
  }

-- the shelf again in its place
in_place : (l : Limits) (bs : List Shelf) (s s' : Shelf) (ys : List Shelf) (v : Live) → OneMore v (lives_on l s) (lives_on l s')
    → OneMore v (flat (lives_on l) (back_onto bs (s ∷ ys))) (flat (lives_on l) (back_onto bs (s' ∷ ys)))
in_place l bs s s' ys v o =
    rw (flat_onto (lives_on l) bs (s ∷ ys), flat_onto (lives_on l) bs (s' ∷ ys)) (within v (flat (lives_on l) (back_onto bs [])) (flat (lives_on l) ys) (lives_on l s) (lives_on l s') o)

-- ---- a grant

module _ (a : Atlas) (asked : Asked) where
  abbrev Adds : Live → Atlas → Type 0
  Adds v a' = OneMore v (lives a) (lives a')

  placed_lives : (f : Focus Shelf) (w : Focus Item) (below : List Shelf) (r : Rows) → Spot f.this w
      → lives a ≡ flat (lives_on a.limits) (back_onto f.before (f.this ∷ below)) → Grants Adds (grant_item a asked f w below r)
  unfolding grant_part grant_whole granted_item rest_of holding live_of
  placed_lives f w below r spot e =
      let l : Limits = a.limits in
      let s : Shelf = f.this in
      let was : lives_on l s ≡ flat (live_in l s) (back_onto w.before (w.this ∷ w.after)) = ap (flat (live_in l s)) spot.stands in
      place_so a asked (Grants Adds) f w below r
      (λ _. rw e (in_place l f.before s (grant_part r s w asked.width) below _
      (rw was (put_in l s w.before w.this (granted_item w.this asked.width) w.after (rest_of r w.this asked.width ∷ w.after) spot.free refl refl))))
      (λ _. rw e (in_place l f.before s (grant_whole s w) below _
      (rw was (put_in l s w.before w.this (granted_item w.this w.this.width) w.after w.after spot.free refl refl))))

  -- a shelf split shows in no live record
  split_same : (bs : List Shelf) (s : Shelf) (ys : List Shelf) → splits_shelf asked s ≡ true
      → flat (lives_on a.limits) (back_onto bs (s ∷ ys)) ≡ flat (lives_on a.limits) (back_onto bs (upper_part asked.depth s ∷ lower_part a.limits a.rows asked.depth s ∷ ys))
  unfolding splits_shelf upper_part lower_part
  split_same bs s ys e =
      let empty : is_empty_of s.items ≡ true = (both (is_empty_of s.items) _ e).0 in
      flat_same (lives_on a.limits) bs (s ∷ ys) (upper_part asked.depth s ∷ lower_part a.limits a.rows asked.depth s ∷ ys)
      (rw (empty_none a.limits s s.items empty, empty_none a.limits (upper_part asked.depth s) s.items empty))

  pub grant_adds : (room : Room) → Sound room a → Grants Adds (grant room a asked)
  unfolding upper_part
  grant_adds room sound =
      grant_so room a sound asked (Grants Adds) (λ e. tt) tt
      (λ f w c e.
      placed_lives (record { before = f.before; this = upper_part asked.depth f.this; after = f.after }) w
      (lower_part a.limits a.rows asked.depth f.this ∷ f.after) (item_taken (shelf_taken a.rows))
      (record { stands = c.spot.stands; once = c.spot.once; listed = c.spot.listed; free = c.spot.free })
      (rw c.stands (split_same f.before f.this f.after e)))
      (λ f w c e. placed_lives f w f.after a.rows c.spot (ap (flat (lives_on a.limits)) c.stands))

-- ---- a release

module _ (l : Limits) (s : Shelf) where
  next_one_less : (ib : List Item) (i : Item) (free : List ℕ) (r : Rows) → i.live ≡ true → (ia : List Item)
      → OneMore (live_of l s i) (flat (live_in l s) (items_of (merge_next (loose ib i ia free r)))) (flat (live_in l s) (back_onto ib (i ∷ ia)))
  unfolding free_with
  next_one_less ib i free r e =
      next_cases (λ ia m. OneMore (live_of l s i) (flat (live_in l s) (items_of m)) (flat (live_in l s) (back_onto ib (i ∷ ia)))) ib i free r
      (put_in l s ib (free_with i i.width) i [] [] refl e refl)
      (λ n ia t. put_in l s ib (free_with i i.width) i (n ∷ ia) (n ∷ ia) refl e refl)
      (λ n ia t. put_in l s ib (free_with i (i.width + n.width)) i ia (n ∷ ia) refl e (rw (free_none l s n t)))

  into_same : (m : Loose) → m.items.this.live ≡ false → flat (live_in l s) (items_of (merge_into m)) ≡ flat (live_in l s) (items_of m)
  unfolding free_with
  into_same m e =
      into_cases (λ ib k. flat (live_in l s) (items_of k) ≡ flat (live_in l s) (back_onto ib (m.items.this ∷ m.items.after))) m.items.this m.items.after m.free m.rows
      refl (λ p ib t. refl)
      (λ p ib t.
      flat_same (live_in l s) ib (free_with p (p.width + m.items.this.width) ∷ m.items.after) (p ∷ m.items.this ∷ m.items.after)
      (rw (free_none l s p t, free_none l s m.items.this e)))
      m.items.before

  next_free : (ib : List Item) (i : Item) (free : List ℕ) (r : Rows) (ia : List Item) → (merge_next (loose ib i ia free r)).items.this.live ≡ false
  unfolding free_with
  next_free ib i free r = next_cases (λ ia m. m.items.this.live ≡ false) ib i free r refl (λ n ia t. refl) (λ n ia t. refl)

module _ (l : Limits) where
  -- two empty shelves in one show in no live record
  joined_same : (bs : List Shelf) (s n : Shelf) (ys : List Shelf) → joins s n ≡ true
      → flat (lives_on l) (back_onto bs (deeper s (s.depth + n.depth) ∷ ys)) ≡ flat (lives_on l) (back_onto bs (s ∷ n ∷ ys))
  unfolding deeper
  joined_same bs s n ys e =
      let (es, en, x) = joins_true s n e in
      flat_same (lives_on l) bs (deeper s (s.depth + n.depth) ∷ ys) (s ∷ n ∷ ys)
      (rw (empty_none l (deeper s (s.depth + n.depth)) s.items es, empty_none l s s.items es, empty_none l n n.items en))

  below_same : (k : Stack) → flat (lives_on l) (shelves_of (merge_below k)) ≡ flat (lives_on l) (shelves_of k)
  below_same k =
      below_cases (λ ys m. flat (lives_on l) (shelves_of m) ≡ flat (lives_on l) (back_onto k.shelves.before (k.shelves.this ∷ ys))) k.shelves.before k.shelves.this k.rows
      refl (λ n ys e. joined_same k.shelves.before k.shelves.this n ys e) (λ n ys e. refl) k.shelves.after

  above_same : (k : Stack) → flat (lives_on l) (shelves_of (merge_above k)) ≡ flat (lives_on l) (shelves_of k)
  above_same k =
      above_cases (λ bs m. flat (lives_on l) (shelves_of m) ≡ flat (lives_on l) (back_onto bs (k.shelves.this ∷ k.shelves.after))) k.shelves.this k.shelves.after k.rows
      refl (λ p bs e. joined_same bs p k.shelves.this k.shelves.after e) (λ p bs e. refl) k.shelves.before

pub release_takes : (a : Atlas) (row : ℕ) (w : Found) → FoundAt row a.shelves a.shelves (some w) → w.item.this.live ≡ true
    → OneMore (live_of a.limits w.shelf.this w.item.this) (lives (release_found a w)) (lives a)
unfolding release_found holding live_of
release_takes a row w found e =
    let l : Limits = a.limits in
    let f : Focus Shelf = w.shelf in
    let i : Focus Item = w.item in
    let n : Loose = merge_next (loose i.before i.this i.after f.this.free a.rows) in
    let m : Loose = merge_into n in
    let s : Shelf = holding f.this (items_of m) m.free in
    let k : Stack = stack f.before s f.after m.rows in
    let one : OneMore (live_of l f.this i.this) (lives_on l s) (lives_on l f.this) =
    rw (found.1, into_same l f.this n (next_free l f.this i.before i.this f.this.free a.rows i.after))
    (next_one_less l f.this i.before i.this f.this.free a.rows e i.after) in
    rw (found.0, above_same l (merge_below k), below_same l k) (in_place l f.before s f.this f.after _ one)
