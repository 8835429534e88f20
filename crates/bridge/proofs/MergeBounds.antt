-- Two bounds on what the merges of a release do: as many rows stay in use as there were, and shelves that are merged are together no deeper than the
-- one that is left, so that their depth fits a row where that one's does. Assumes nothing.
use Rattle.std.specs.Prelude.{◌+◌, ◌≤◌, ◌≡◌, ◌∷◌}
use Rattle.numbers.specs.Library.{ℕ, refl, sym, ap, ◌∙◌, true, false, false≢true, List, [], arith}
use Rattle.rules.specs.Prelude.{Item, Shelf, Rows, Loose, Stack, freeing, free_item_row, free_shelf_row, free_shelf, deeper, joins, merge_next, merge_into, merge_below}
use Rattle.rules.specs.Prelude.{merge_above}
use Rattle.laws.proofs.Shape.Merging.{next_cases, into_cases, below_cases, above_cases}
use Rattle.bridge.proofs.Shelves.MergeNeighbours.{LowBelow, LowAbove}

-- ---- no merge changes how many rows are in use

pub record SameUse (r r' : Rows) : Type 0 where
  pub shelves : r'.shelves.used ≡ r.shelves.used
  pub items : r'.items.used ≡ r.items.used

same_then : (q r s : Rows) → SameUse q r → SameUse r s → SameUse q s
same_then q r s a b = record { shelves = b.shelves ∙ a.shelves; items = b.items ∙ a.items }

next_use : (m : Loose) → SameUse m.rows (merge_next m).rows
unfolding free_item_row freeing
next_use m =
    next_cases (λ ia (k : Loose). SameUse m.rows k.rows) m.items.before m.items.this m.free m.rows
    (record { shelves = refl; items = refl }) (λ n ia e. record { shelves = refl; items = refl }) (λ n ia e. record { shelves = refl; items = refl }) m.items.after

into_use : (m : Loose) → SameUse m.rows (merge_into m).rows
unfolding free_item_row freeing
into_use m =
    into_cases (λ ib (k : Loose). SameUse m.rows k.rows) m.items.this m.items.after m.free m.rows
    (record { shelves = refl; items = refl }) (λ n ib e. record { shelves = refl; items = refl }) (λ n ib e. record { shelves = refl; items = refl }) m.items.before

pub loose_use : (m : Loose) → SameUse m.rows (merge_into (merge_next m)).rows
loose_use m = same_then m.rows (merge_next m).rows (merge_into (merge_next m)).rows (next_use m) (into_use (merge_next m))

free_use : (s : Shelf) (is : List Item) (r : Rows) → s.items ≡ is → SameUse r (free_shelf s r)
unfolding free_shelf free_shelf_row free_item_row freeing
free_use s [] r e = rw (e, free_shelf) (record { shelves = refl; items = refl })
free_use s (i ∷ is) r e = rw (e, free_shelf) (record { shelves = refl; items = refl })

below_use : (m : Stack) → SameUse m.rows (merge_below m).rows
below_use m =
    below_cases (λ ys (k : Stack). SameUse m.rows k.rows) m.shelves.before m.shelves.this m.rows
    (record { shelves = refl; items = refl }) (λ n ys e. free_use n n.items m.rows refl) (λ n ys e. record { shelves = refl; items = refl }) m.shelves.after

above_use : (m : Stack) → SameUse m.rows (merge_above m).rows
above_use m =
    above_cases (λ bs (k : Stack). SameUse m.rows k.rows) m.shelves.this m.shelves.after m.rows
    (record { shelves = refl; items = refl }) (λ p bs e. free_use m.shelves.this m.shelves.this.items m.rows refl) (λ p bs e. record { shelves = refl; items = refl }) m.shelves.before

pub stack_use : (m : Stack) → SameUse m.rows (merge_above (merge_below m)).rows
stack_use m = same_then m.rows (merge_below m).rows (merge_above (merge_below m)).rows (below_use m) (above_use (merge_below m))

-- ---- shelves that are merged are no deeper than the one that is left

abbrev depth_of : Stack → ℕ
depth_of k = k.shelves.this.depth

-- of a shelf and a neighbour: where they join, they are no deeper than d
abbrev JoinsWithin : ℕ → Shelf → Shelf → Type 0
JoinsWithin d s t = joins s t ≡ true → s.depth + t.depth ≤ d

no_join : (d : ℕ) (s t : Shelf) → joins s t ≡ false → JoinsWithin d s t
no_join d s t e j = absurd (false≢true (sym e ∙ j))

-- in each case of the merge: where the two join, the shelf that is left is as deep as both
above_deep : (m : Stack) → (((p : Shelf) (bs : List Shelf) → m.shelves.before ≡ p ∷ bs → JoinsWithin (depth_of (merge_above m)) p m.shelves.this) × (depth_of m ≤ depth_of (merge_above m)))
unfolding deeper
above_deep m =
    above_cases (λ bs (k : Stack). ((p : Shelf) (cs : List Shelf) → bs ≡ p ∷ cs → JoinsWithin (depth_of k) p s) × (s.depth ≤ depth_of k)) s m.shelves.after m.rows
    (λ p cs e. cc, omega arith)
    (λ p bs j. (λ q cs e i. let f : p ≡ q = cc in omega (arith, ap (λ (x : Shelf). x.depth) f), omega arith))
    (λ p bs j. (λ q cs e. let f : p ≡ q = cc in rw (← f) (no_join s.depth p s j), omega arith))
    m.shelves.before
  where
    s : Shelf
    s = m.shelves.this

below_deep : (m : Stack) → (((n : Shelf) (ys : List Shelf) → m.shelves.after ≡ n ∷ ys → JoinsWithin (depth_of (merge_below m)) m.shelves.this n) × (depth_of m ≤ depth_of (merge_below m)))
unfolding deeper
below_deep m =
    below_cases (λ ys (k : Stack). ((n : Shelf) (zs : List Shelf) → ys ≡ n ∷ zs → JoinsWithin (depth_of k) s n) × (s.depth ≤ depth_of k)) m.shelves.before s m.rows
    (λ p cs e. cc, omega arith)
    (λ n ys j. (λ q cs e i. let f : n ≡ q = cc in omega (arith, ap (λ (x : Shelf). x.depth) f), omega arith))
    (λ n ys j. (λ q cs e. let f : n ≡ q = cc in rw (← f) (no_join s.depth s n j), omega arith))
    m.shelves.after
  where
    s : Shelf
    s = m.shelves.this

-- so where the shelf that is left fits a row, so do they
module _ (m : Stack) (fits : (merge_above (merge_below m)).shelves.this.depth ≤ 65535) where
  pub low_below : LowBelow m
  low_below n ys e j = omega (arith, (below_deep m).0 n ys e j, (above_deep (merge_below m)).1)

  pub low_above : LowAbove (merge_below m)
  low_above p bs e j = omega (arith, (above_deep (merge_below m)).0 p bs e j)
