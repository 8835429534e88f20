-- A release keeps the shape of an atlas, through its four merges. Assumes nothing.
use Rattle.std.specs.Prelude.{◌+◌, ◌≡◌, ◌&&◌, ◌∷◌}
use Rattle.numbers.specs.Library.{ℕ, refl, sym, ap, ◌∙◌, subst, inl, inr, ⊎_elim, Bool, true, false, not, some, List, [], List·Memᴰ·head}
use Rattle.numbers.specs.Library.{List·Memᴰ·tail, List·Memᴰ·cases-cons, List·Memᴰ·append-cases, List·Memᴰ·eq-of-singleton, Memᴰ·append-left, Memᴰ·append-right}
use Rattle.numbers.specs.declared.limits.Limits.{Limits}
use Rattle.numbers.specs.Prelude.{WithinLimits}
use Rattle.chains.specs.Prelude.{◌∈◌, Distinct, Neighbours, Focus, back_onto}
use Rattle.chains.proofs.Prelude.{not_out, onto_apart, in_onto, onto_in, each_split}
use Rattle.rules.specs.Prelude.{Item, Shelf, Rows, Atlas, Room, replace_row, holding, Loose, Stack, Found, free_item_row, free_with, deeper, joins, merge_next}
use Rattle.rules.specs.Prelude.{merge_into, merge_below, merge_above, release_found, free_rows, item_rows_of, Stacked, Filled, NotBothFree, NotBothEmpty, Shaped}
use Rattle.rules.specs.Prelude.{WellFormed}
use Rattle.laws.proofs.Shape.Around.{known_no, Half, half, whole, whole_joined, ahead_map}
use Rattle.laws.proofs.Shape.Geometry.{filled_onto, filled_join, stacked_join, joins_true, joins_alike, joined_alike, Right, Laid, laid, shaped, laid_at}
use Rattle.rules.proofs.LiveRows.{a_free, free_row}
use Rattle.laws.proofs.Shape.Listed.{row_of, free_of, stays_listed}
use Rattle.laws.proofs.Shape.Finding.{FoundAt, rows_once}
use Rattle.laws.proofs.Shape.Merging.{loose, items_of, stack, shelves_of, next_cases, into_cases, below_cases, above_cases}

-- ---- items

-- Between the merges: the item is free, and stands on no list yet; nothing is said of it and the one before it.
record Between (l : Limits) (x : ℕ) (m : Loose) : Type 0 where
  free : m.items.this.live ≡ false
  filled : Filled l x (x + l.shelf_width) (items_of m)
  apart : Half NotBothFree m.items.before m.items.this m.items.after
  before_listed : (r : ℕ) → r ∈ free_rows m.items.before → r ∈ m.free
  after_listed : (r : ℕ) → r ∈ free_rows m.items.after → r ∈ m.free

module _ (l : Limits) (x : ℕ) (ib : List Item) (i : Item) (free : List ℕ) (r : Rows) where
  -- what holds of a shelf's items while one is live
  record Whole (ia : List Item) : Type 0 where
    filled : Filled l x (x + l.shelf_width) (back_onto ib (i ∷ ia))
    apart : Neighbours NotBothFree (back_onto ib (i ∷ ia))
    listed : (q : ℕ) → q ∈ free_rows (back_onto ib (i ∷ ia)) → q ∈ free
    once : Distinct (item_rows_of (back_onto ib (i ∷ ia)))

  alone : (ia : List Item) → (Neighbours NotBothFree ia → Neighbours NotBothFree (free_with i i.width ∷ ia)) → Whole ia → Between l x (loose ib (free_with i i.width) ia free r)
  unfolding free_with Filled
  alone ia ahead w = record {
    free = refl;
    filled = filled_onto l (i ∷ ia) (free_with i i.width ∷ ia) (x + l.shelf_width) (λ x q. q) ib x w.filled;
    apart = half NotBothFree ib i (free_with i i.width) ia ia w.apart ahead;
    before_listed = λ q m. w.listed q (in_onto free_of q ib (i ∷ ia) (inl m));
    after_listed = λ q m. w.listed q (in_onto free_of q ib (i ∷ ia) (inr (Memᴰ·append-right (free_of i) m)));
  }

  merged : (n : Item) (ia : List Item) → n.live ≡ false → Whole (n ∷ ia)
      → Between l x (loose ib (free_with i (i.width + n.width)) ia (replace_row n.row [] free) (free_item_row n r))
  unfolding free_with
  merged n ia e w =
      let (db, dy, apart) = onto_apart row_of ib (i ∷ n ∷ ia) w.once in
      record {
        free = refl;
        filled = filled_onto l (i ∷ n ∷ ia) (free_with i (i.width + n.width) ∷ ia) (x + l.shelf_width) (filled_join l i n ia (x + l.shelf_width)) ib x w.filled;
        apart = half NotBothFree ib i (free_with i (i.width + n.width)) (n ∷ ia) ia w.apart
            (ahead_map NotBothFree n (free_with i (i.width + n.width)) ia (λ b q. subst (λ (z : Bool). not z && not b.live ≡ false) e q));
        before_listed = λ q m. stays_listed n.row [] free q (λ k. apart q (free_row ib q m) (List·Memᴰ·tail (List·Memᴰ·head k)))
            (w.listed q (in_onto free_of q ib (i ∷ n ∷ ia) (inl m)));
        after_listed = λ q m. stays_listed n.row [] free q (not_out dy.1.0 (free_row ia q m))
            (w.listed q (in_onto free_of q ib (i ∷ n ∷ ia)
            (inr (Memᴰ·append-right (free_of i) (Memᴰ·append-right (free_of n) m)))));
      }

  next_between : (ia : List Item) → Whole ia → Between l x (merge_next (loose ib i ia free r))
  unfolding free_with
  next_between =
      next_cases (λ ia m. Whole ia → Between l x m) ib i free r (alone [] (λ n. tt))
      (λ n ia e. alone (n ∷ ia) (λ k. (ap not e, k)))
      merged

into_right : (l : Limits) (s : Shelf) (m : Loose) → Between l s.x m → Right l (holding s (items_of (merge_into m)) (merge_into m).free)
unfolding holding free_with
into_right l s m =
    into_cases (λ ib k. Between l s.x (loose ib i ia m.free m.rows) → Right l (holding s (items_of k) k.free)) i ia m.free m.rows
    (λ b. record { filled = b.filled; free_apart = b.apart.1; all_listed = listed [] b })
    (λ p ib e b. record {
      filled = b.filled;
      free_apart = whole NotBothFree p ib i ia (ap (λ (z : Bool). not z && not i.live) e) b.apart;
      all_listed = listed (p ∷ ib) b;
    })
    (λ p ib e b. record {
      filled = filled_onto l (p ∷ i ∷ ia) (free_with p (p.width + i.width) ∷ ia) (s.x + l.shelf_width) (filled_join l p i ia (s.x + l.shelf_width)) ib s.x b.filled;
      free_apart = whole_joined NotBothFree p ib i (free_with p (p.width + i.width)) ia
          (λ q k. subst (λ (z : Bool). not q.live && not z ≡ false) e k) (λ q k. subst (λ (z : Bool). not z && not q.live ≡ false) b.free k) b.apart;
      all_listed = λ q k.
          ⊎_elim (λ w. b.before_listed q (Memᴰ·append-right (free_of p) w))
          (λ w. ⊎_elim (λ t. b.before_listed q (Memᴰ·append-left (free_rows ib) (first p e q t))) (b.after_listed q) (List·Memᴰ·cases-cons w))
          (onto_in free_of q ib (free_with p (p.width + i.width) ∷ ia) k);
    })
    m.items.before
  where
    i : Item
    i = m.items.this

    ia : List Item
    ia = m.items.after

    first : (p : Item) → p.live ≡ false → (q : ℕ) → q ≡ p.row → q ∈ free_of p
    first p e q t = known_no (λ z. q ∈ z) p.live [] (p.row ∷ []) e (List·Memᴰ·head t)

    listed : (ib : List Item) → Between l s.x (loose ib i ia m.free m.rows) → (q : ℕ) → q ∈ free_rows (back_onto ib (i ∷ ia)) → q ∈ (i.row ∷ m.free)
    listed ib b q k =
        ⊎_elim (λ w. List·Memᴰ·tail (b.before_listed q w))
        (λ w. ⊎_elim (λ t. List·Memᴰ·head (List·Memᴰ·eq-of-singleton (a_free i.live i.row q t))) (λ t. List·Memᴰ·tail (b.after_listed q t)) (List·Memᴰ·append-cases (free_of i) w))
        (onto_in free_of q ib (i ∷ ia) k)

-- ---- shelves

-- Between the merges nothing is said of the shelf and the one before it.
abbrev Stacking : Limits → Stack → Type 0
Stacking l k = Laid l (shelves_of k) × Half NotBothEmpty k.shelves.before k.shelves.this k.shelves.after

module _ (l : Limits) (lim : WithinLimits l) where
  -- two empty shelves of a column in one
  joined_laid : (bs : List Shelf) (s n : Shelf) (ys : List Shelf) → joins s n ≡ true
      → Laid l (back_onto bs (s ∷ n ∷ ys)) → Laid l (back_onto bs (deeper s (s.depth + n.depth) ∷ ys))
  unfolding deeper
  joined_laid bs s n ys e =
      laid_at l bs s (deeper s (s.depth + n.depth)) (n ∷ ys) ys refl (stacked_join l s n ys (joins_true s n e).2 lim.s_least)
      (λ r. (record { filled = r.0.filled; free_apart = r.0.free_apart; all_listed = r.0.all_listed }, r.1.1))

  below_stacking : (bs : List Shelf) (s₀ s : Shelf) (r : Rows) (ys : List Shelf) → Laid l (back_onto bs (s ∷ ys)) → Neighbours NotBothEmpty (back_onto bs (s₀ ∷ ys))
      → Stacking l (merge_below (stack bs s ys r))
  unfolding deeper
  below_stacking bs s₀ s r =
      below_cases (λ ys k. Laid l (back_onto bs (s ∷ ys)) → Neighbours NotBothEmpty (back_onto bs (s₀ ∷ ys)) → Stacking l k) bs s r
      (λ k n. (k, half NotBothEmpty bs s₀ s [] [] n (λ e. tt)))
      (λ t ys e k n.
      let (es, et, x) = joins_true s t e in
      let s' : Shelf = deeper s (s.depth + t.depth) in
      (joined_laid bs s t ys e k, half NotBothEmpty bs s₀ s' (t ∷ ys) ys n (ahead_map NotBothEmpty t s' ys (λ b q. joins_alike t s' b (es ∙ sym et) x q))))
      (λ t ys e k n. (k, half NotBothEmpty bs s₀ s (t ∷ ys) (t ∷ ys) n (λ q. (e, q))))

  above_apart : (k : Stack) → Stacking l k → Laid l (shelves_of (merge_above k)) × Neighbours NotBothEmpty (shelves_of (merge_above k))
  unfolding deeper
  above_apart m =
      above_cases (λ bs k. Stacking l (stack bs m.shelves.this m.shelves.after m.rows) → Laid l (shelves_of k) × Neighbours NotBothEmpty (shelves_of k))
      m.shelves.this m.shelves.after m.rows
      (λ h. (h.0, h.1.1))
      (λ p bs e h.
      let s : Shelf = m.shelves.this in
      let (ep, es, x) = joins_true p s e in
      let p' : Shelf = deeper p (p.depth + s.depth) in (
        joined_laid bs p s m.shelves.after e h.0,
        whole_joined NotBothEmpty p bs s p' m.shelves.after (λ q k. joined_alike p p' q refl refl k) (λ q k. joins_alike s p' q (ep ∙ sym es) x k) h.1,
      ))
      (λ p bs e h. (h.0, whole NotBothEmpty p bs m.shelves.this m.shelves.after e h.1))
      m.shelves.before

-- ---- the release

pub release_shape : (room : Room) (a : Atlas) → WellFormed room a → (row : ℕ) (w : Found) → FoundAt row a.shelves a.shelves (some w) → Shaped (release_found a w)
unfolding release_found holding Stacked
release_shape room a formed row w found =
    let f : Focus Shelf = w.shelf in
    let i : Focus Item = w.item in
    let k : Laid a.limits (back_onto f.before (f.this ∷ f.after)) = rw found.0 at (laid a formed.shaped) in
    let n : Neighbours NotBothEmpty (back_onto f.before (f.this ∷ f.after)) = rw found.0 at formed.shaped.empty_apart in
    let right : Right a.limits f.this = (each_split (Right a.limits) f.before (f.this ∷ f.after) k.right).1.0 in
    let m : Loose = merge_into (merge_next (loose i.before i.this i.after f.this.free a.rows)) in
    let s : Shelf = holding f.this (items_of m) m.free in
    let loosened : Right a.limits s =
    into_right a.limits f.this (merge_next (loose i.before i.this i.after f.this.free a.rows))
    (next_between a.limits f.this.x i.before i.this f.this.free a.rows i.after (record {
      filled = rw found.1 at right.filled;
      apart = rw found.1 at right.free_apart;
      listed = λ r q. right.all_listed r (rw found.1 q);
      once = rw found.1 at (rows_once room a formed.sound f.before f.this f.after found.0);
    })) in
    let k' : Laid a.limits (back_onto f.before (s ∷ f.after)) = laid_at a.limits f.before f.this s f.after f.after refl (λ c y q. q) (λ e. (loosened, e.1)) k in
    let (k'', n'') = above_apart a.limits formed.shaped.limits (merge_below (stack f.before s f.after m.rows))
    (below_stacking a.limits formed.shaped.limits f.before f.this s m.rows f.after k' n) in
    shaped (release_found a w) formed.shaped.limits k'' n''
