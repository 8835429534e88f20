-- What a release changes: the item is merged with its free neighbours, an emptied shelf with its empty ones. Assumes nothing.
use Rattle.std.specs.Prelude.{◌+◌, ◌&&◌, ◌∷◌}
use Rattle.numbers.specs.Library.{ℕ, Bool, false, List, [], Option, none, some, eqb}
use Rattle.numbers.specs.Prelude.{pick}
use Rattle.chains.specs.Prelude.{Focus, back_onto}
use Rattle.rules.specs.Atlas.{Item, Shelf, Pool, Rows, Atlas, is_empty_of, resized}
use Rattle.rules.specs.Grant.{find_item, replace_row, holding}

-- ---- a freed row goes to the front of its chain

unfoldable pub freeing : {E : Type 0} → E → Pool E → Pool E
freeing e p = record { used = p.used; freed = e ∷ p.freed }

unfoldable pub free_item_row : Item → Rows → Rows
unfolding freeing
free_item_row i r = record { shelves = r.shelves; items = freeing (record { row = i.row; generation = i.generation }) r.items }

unfoldable pub free_shelf_row : Shelf → Rows → Rows
unfolding freeing
free_shelf_row s r = record { shelves = freeing s.row r.shelves; items = r.items }

-- "A merged shelf's item row is freed, then its shelf row."
unfoldable pub free_shelf : Shelf → Rows → Rows
unfolding free_item_row free_shelf_row
free_shelf s r = elim s.items [ [] ↦ free_shelf_row s r | i ∷ rest ↦ free_shelf_row s (free_item_row i r) ]

-- ---- items

unfoldable pub free_with : Item → ℕ → Item
free_with i width = resized i width false

-- A shelf's items and free list, and the rows, on the way through a release.
pub record Loose : Type 0 where
  pub items : Focus Item
  pub free : List ℕ
  pub rows : Rows

-- "Merge a free next item in (its row freed)."
unfoldable pub merge_next : Loose → Loose
unfolding free_with free_item_row replace_row
merge_next m =
    let f : Focus Item = m.items in
    let alone : Loose = record { items = record { before = f.before; this = free_with f.this f.this.width; after = f.after }; free = m.free; rows = m.rows } in
    elim f.after [
      | [] ↦ alone
      | n ∷ rest ↦ pick n.live alone (record {
        items = record { before = f.before; this = free_with f.this (f.this.width + n.width); after = rest };
        free = replace_row n.row [] m.free;
        rows = free_item_row n m.rows;
      })
    ]

-- "Then, if the previous item is free, merge into it (own row freed), else go to the front of the free list."
unfoldable pub merge_into : Loose → Loose
unfolding free_with free_item_row
merge_into m =
    let f : Focus Item = m.items in
    let alone : Loose = record { items = f; free = f.this.row ∷ m.free; rows = m.rows } in
    elim f.before [
      | [] ↦ alone
      | p ∷ rest ↦ pick p.live alone (record {
        items = record { before = rest; this = free_with p (p.width + f.this.width); after = f.after };
        free = m.free;
        rows = free_item_row f.this m.rows;
      })
    ]

-- ---- shelves

unfoldable pub deeper : Shelf → ℕ → Shelf
deeper s depth = record { row = s.row; x = s.x; y = s.y; depth = depth; items = s.items; free = s.free }

-- The shelves and the rows, on the way through a release.
pub record Stack : Type 0 where
  pub shelves : Focus Shelf
  pub rows : Rows

-- two empty shelves of one column
unfoldable pub joins : Shelf → Shelf → Bool
unfolding is_empty_of
joins s t = is_empty_of s.items && is_empty_of t.items && eqb s.x t.x

-- "If one item is left, the shelf is empty: merge an empty next shelf of the same column in."
unfoldable pub merge_below : Stack → Stack
unfolding joins deeper free_shelf
merge_below m =
    let f : Focus Shelf = m.shelves in
    elim f.after [
      | [] ↦ m
      | n ∷ rest ↦ pick (joins f.this n) (record {
        shelves = record { before = f.before; this = deeper f.this (f.this.depth + n.depth); after = rest };
        rows = free_shelf n m.rows;
      }) m
    ]

-- "Then merge into an empty previous one of that column."
unfoldable pub merge_above : Stack → Stack
unfolding joins deeper free_shelf
merge_above m =
    let f : Focus Shelf = m.shelves in
    elim f.before [
      | [] ↦ m
      | p ∷ rest ↦ pick (joins p f.this) (record {
        shelves = record { before = rest; this = deeper p (p.depth + f.this.depth); after = f.after };
        rows = free_shelf f.this m.rows;
      }) m
    ]

-- ---- a release

-- A shelf that holds an item of this row, and that item, each where it stands.
pub record Found : Type 0 where
  pub shelf : Focus Shelf
  pub item : Focus Item

unfoldable pub find : ℕ → List Shelf → List Shelf → Option Found
unfolding find_item
find row before [] = none
find row before (s ∷ after) =
    let later : Option Found = find row (s ∷ before) after in
    elim (find_item row [] s.items) [
      | none ↦ later
      | some i ↦ some (record { shelf = record { before = before; this = s; after = after }; item = i })
    ]

unfoldable pub names : ℕ → ℕ → Item → Bool
names row generation i = eqb row i.row && eqb generation i.generation && i.live

-- the live item that a row and a generation name
unfoldable pub find_live : Atlas → ℕ → ℕ → Option Found
unfolding find names
find_live a row generation =
    elim (find row [] a.shelves) [ none ↦ none | some w ↦ pick (names row generation w.item.this) (some w) none ]

unfoldable pub release_found : Atlas → Found → Atlas
unfolding merge_next merge_into merge_below merge_above holding
release_found a w =
    let m : Loose = merge_into (merge_next (record { items = w.item; free = w.shelf.this.free; rows = a.rows })) in
    let loosened : Shelf = holding w.shelf.this (back_onto m.items.before (m.items.this ∷ m.items.after)) m.free in
    let k : Stack = merge_above (merge_below (record { shelves = record { before = w.shelf.before; this = loosened; after = w.shelf.after }; rows = m.rows })) in
    record { limits = a.limits; shelves = back_onto k.shelves.before (k.shelves.this ∷ k.shelves.after); rows = k.rows }
