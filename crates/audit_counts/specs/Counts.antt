-- What the audit's walks decide and count: the items of a shelf, all the items, the free lists, the freed chains. From these counts follow rules
-- 5 to 7 (proofs/Agree). `S` is the shelf table and `I` the item table throughout. Assumes nothing.
use Rattle.std.specs.Prelude.{◌+◌, ◌-◌, ◌≤◌, ◌≡◌, Option, MatchOption}
use Rattle.numbers.specs.Library.{ℕ, List, eqb, length}
use Rattle.numbers.specs.Prelude.{pick, no_row}
use Rattle.rows.specs.Prelude.{get, items, shelves}
use Rattle.pool.specs.Pool.{FreedShelf, FreedItem}
use Rattle.rows.specs.declared.{header.Header.Header, shelf.ShelfRow.ShelfRow, item.ItemRow.ItemRow}
use Rattle.chains.specs.Prelude.{Each, gather, rows_from, Walk}
use Rattle.rules.specs.Prelude.{shelf_next, item_next, free_next, shelves_met, free_met, all_items_met, freed_shelves_met, freed_items_met, ItemRight, along, at_left_of}
use Rattle.rules.specs.Prelude.{Rule3, sum_over, area_met}
use Rattle.audit_counts.specs.declared.{Tally.Tally, Totals.Totals}

-- ---- what is told

-- `told` has a value exactly when A holds, and then P holds of the value
abbrev pub GivenIf : {T : Type 0} → Type 0 → (T → Type 0) → Option T → Type 0
GivenIf A P told = MatchOption told (¬ A) (λ v. A × P v)

-- ---- the items of one shelf

-- what an item adds: 1 if it is free, its width if it is live
unfoldable pub free_in_of : ItemRow → ℕ
free_in_of i = pick (eqb i.allocated 0) 1 0

unfoldable pub live_in : ItemRow → ℕ
live_in i = pick (eqb i.allocated 0) 0 i.width

-- how far two numbers are apart
unfoldable pub apart : ℕ → ℕ → ℕ
apart a b = (a - b) + (b - a)

-- how far the free links of a live item are from none
unfoldable pub stray_in : ItemRow → ℕ
stray_in i = pick (eqb i.allocated 0) 0 (apart i.prev_unallocated.0 no_row + apart i.next_unallocated.0 no_row)

abbrev pub free_of : List ℕ → ℕ → ℕ
free_of I r = free_in_of (get items I r)

abbrev pub live_of : List ℕ → ℕ → ℕ
live_of I r = live_in (get items I r)

abbrev pub stray_of : List ℕ → ℕ → ℕ
stray_of I r = stray_in (get items I r)

-- the numbers of an item that a walk adds up fit 16 bits
pub record Small (i : ItemRow) : Type 0 where
  pub x : i.x ≤ 65535
  pub width : i.width ≤ 65535
  pub prev_free : i.prev_unallocated.0 ≤ 65535
  pub next_free : i.next_unallocated.0 ≤ 65535

-- the rows that are met along the items of the shelf s, and rule 3 for it, where it stands in row `on`
unfoldable pub rows_of : Header → List ℕ → ShelfRow → List ℕ
rows_of h I s = rows_from (item_next I) h.used_items s.first_item.0

unfoldable pub RightOf : Header → List ℕ → ℕ → ShelfRow → Type 0
RightOf h I on s =
    Walk (item_next I) (λ d r. ItemRight h on d (get items I r)) (λ d r. along d r (get items I r))
    (λ d. d.x ≡ s.x + h.limits.shelf_width) h.used_items s.first_item.0 (at_left_of s)

pub record ShelfCounts (h : Header) (I : List ℕ) (s : ShelfRow) (t : Tally) : Type 0 where
  pub count : t.count ≡ length (rows_of h I s)
  pub free : t.free ≡ sum_over (free_of I) (rows_of h I s)
  pub live : t.live ≡ sum_over (live_of I) (rows_of h I s)
  pub stray : t.stray ≡ sum_over (stray_of I) (rows_of h I s)

-- what is counted of a shelf whose items are right, and how large it can be
pub record Tallied (h : Header) (I : List ℕ) (s : ShelfRow) (t : Tally) : Type 0 where
  pub counts : ShelfCounts h I s t
  pub count_most : t.count ≤ 65535
  pub free_most : t.free ≤ 65535
  pub live_most : t.live ≤ 131070
  pub stray_most : t.stray ≤ 8589672450

abbrev pub ShelfTallied : Header → List ℕ → (on : ℕ) → ShelfRow → Option Tally → Type 0
ShelfTallied h I on s = GivenIf (RightOf h I on s) (Tallied h I s)

-- ---- all the items

pub record AllCounts (h : Header) (S I : List ℕ) (t : Totals) : Type 0 where
  pub shelves : t.shelves ≡ length (shelves_met h S)
  pub items : t.items ≡ length (all_items_met h S I)
  pub free : t.free ≡ sum_over (free_of I) (all_items_met h S I)
  pub stray : t.stray ≡ sum_over (stray_of I) (all_items_met h S I)
  pub area : t.area ≡ sum_over (area_met h S I) (shelves_met h S)

abbrev pub AllTallied : Header → (S I : List ℕ) → Option Totals → Type 0
AllTallied h S I = GivenIf (Rule3 h S I) (AllCounts h S I)

-- ---- the rows of a chain

-- `c` says whether A holds, and then how many these rows are
abbrev pub Counts : Type 0 → (rows : List ℕ) → Option ℕ → Type 0
Counts A rows = GivenIf A (λ c. c ≡ length rows)

-- ---- the free lists

-- an item that can stand in the free list of the shelf in row `on`, after the row `prev`
pub record FreeItem (on prev : ℕ) (i : ItemRow) : Type 0 where
  pub back : i.prev_unallocated.0 ≡ prev
  pub named : i.shelf.0 ≡ on
  pub some_width : 1 ≤ i.width
  pub is_free : i.allocated ≡ 0

unfoldable pub FreeList : Header → List ℕ → ℕ → ℕ → Type 0
FreeList h I on first =
    Walk (free_next I) (λ prev r. FreeItem on prev (get items I r)) (λ prev r. r) (λ last. Unit {0}) h.used_items first no_row

-- the free list of the shelf in row `on`
unfoldable pub FreeListOf : Header → List ℕ → List ℕ → ℕ → Type 0
unfolding FreeList
FreeListOf h S I on = FreeList h I on (get shelves S on).first_unallocated.0

-- the same by place alone, where no width is asked
pub record FreeItemAt (on prev : ℕ) (i : ItemRow) : Type 0 where
  pub back : i.prev_unallocated.0 ≡ prev
  pub named : i.shelf.0 ≡ on
  pub is_free : i.allocated ≡ 0

unfoldable pub FreeListAt : Header → List ℕ → ℕ → ℕ → Type 0
FreeListAt h I on first =
    Walk (free_next I) (λ prev r. FreeItemAt on prev (get items I r)) (λ prev r. r) (λ last. Unit {0}) h.used_items first no_row

unfoldable pub all_free_met : Header → List ℕ → List ℕ → List ℕ
unfolding shelves_met free_met
all_free_met h S I = gather (free_met h S I) (shelves_met h S)

abbrev pub FreeListCounted : Header → List ℕ → (on first : ℕ) → Option ℕ → Type 0
FreeListCounted h I on first = GivenIf (FreeList h I on first) (λ c. (c ≡ length (rows_from (free_next I) h.used_items first)) × (c ≤ 65535))

-- ---- the freed rows

-- the freed chain of a table, among `used` rows and from row `head` on, along which each row has P
abbrev pub Freed : (ℕ → ℕ) → ℕ → ℕ → (ℕ → Type 0) → Type 0
Freed next used head P = Walk next (λ (u : Unit {0}) r. P r) (λ u r. u) (λ u. Unit {0}) used head tt

unfoldable pub FreedShelves : Header → List ℕ → Type 0
FreedShelves h S = Freed (shelf_next S) h.used_shelves h.free_shelves.0 (λ r. FreedShelf (get shelves S r))

unfoldable pub FreedItems : Header → List ℕ → Type 0
FreedItems h I = Freed (item_next I) h.used_items h.free_items.0 (λ r. FreedItem (get items I r))

-- ---- the lists against the totals of the item chains

pub record ListsAgree (h : Header) (S I : List ℕ) (t : Totals) : Type 0 where
  pub no_stray : t.stray ≡ 0
  pub occupied : t.area ≡ h.occupied
  pub freed_shelves_lem : FreedShelves h S
  pub all_shelves : t.shelves + length (freed_shelves_met h S) ≡ h.used_shelves
  pub freed_items_lem : FreedItems h I
  pub all_items : t.items + length (freed_items_met h I) ≡ h.used_items
  pub free_lists : Each (FreeListOf h S I) (shelves_met h S)
  pub all_free : length (all_free_met h S I) ≡ t.free
