-- An atlas as document 01 speaks of it: columns of shelves, shelves of stretches, and the rows that name them. No link and no
-- offset stands here: how an atlas lies in the two tables is told in Stores. Assumes nothing.
use Rattle.std.specs.Prelude.{◌+◌, ◌*◌, ◌∷◌}
use Rattle.numbers.specs.Library.{ℕ, zero, suc, Bool, false, not, List, []}
use Rattle.numbers.specs.Prelude.{pick, columns}
use Rattle.numbers.specs.declared.limits.Limits.{Limits}

-- A stretch of a shelf, live or free.
pub record Item : Type 0 where
  pub row : ℕ
  pub x : ℕ
  pub width : ℕ
  pub live : Bool
  pub generation : ℕ

-- a free item; and an item of another width, live or free, that keeps its row, its place and its generation
abbrev pub free_item : ℕ → ℕ → ℕ → ℕ → Item
free_item row x width generation = record { row = row; x = x; width = width; live = false; generation = generation }

abbrev pub resized : Item → ℕ → Bool → Item
resized i width live = record { row = i.row; x = i.x; width = width; live = live; generation = i.generation }

-- A shelf: its items from its left end to its right, and the rows of its free items in the order of its free list.
pub record Shelf : Type 0 where
  pub row : ℕ
  pub x : ℕ
  pub y : ℕ
  pub depth : ℕ
  pub items : List Item
  pub free : List ℕ

-- An item row that was freed.
pub record Freed : Type 0 where
  pub row : ℕ
  pub generation : ℕ

-- The rows of one table that were taken into use so far, and what is left of those that were freed, the latest first.
pub record Pool (E : Type 0) : Type 0 where
  pub used : ℕ
  pub freed : List E

pub record Rows : Type 0 where
  pub shelves : Pool ℕ
  pub items : Pool Freed

-- The shelves stand in the order of their chain.
pub record Atlas : Type 0 where
  pub limits : Limits
  pub shelves : List Shelf
  pub rows : Rows

-- how many rows each table has room for
pub record Room : Type 0 where
  pub shelves : ℕ
  pub items : ℕ

-- a shelf is empty when it is one free stretch
unfoldable pub is_empty_of : List Item → Bool
is_empty_of [] = false
is_empty_of (i ∷ []) = not i.live
is_empty_of (i ∷ j ∷ rest) = false

unfoldable pub live_area : ℕ → List Item → ℕ
live_area depth [] = 0
live_area depth (i ∷ rest) = pick i.live (i.width * depth) 0 + live_area depth rest

-- the sum of the live areas
unfoldable pub occupied : List Shelf → ℕ
unfolding live_area
occupied [] = 0
occupied (s ∷ rest) = live_area s.depth s.items + occupied rest

-- ---- a fresh atlas: C shelves of depth H in rows 0 to C - 1, each with one free item of width S, generation 1

unfoldable pub fresh_shelf : Limits → ℕ → Shelf
fresh_shelf l k = record {
  row = k;
  x = k * l.shelf_width;
  y = 0;
  depth = l.height;
  items = free_item k (k * l.shelf_width) l.shelf_width 1 ∷ [];
  free = k ∷ [];
}

-- n of them from row k on
unfoldable pub fresh_shelves : Limits → ℕ → ℕ → List Shelf
unfolding fresh_shelf
fresh_shelves l k zero = []
fresh_shelves l k (suc n) = fresh_shelf l k ∷ fresh_shelves l (suc k) n

unfoldable pub fresh : Limits → Atlas
unfolding fresh_shelves columns
fresh l = record {
  limits = l;
  shelves = fresh_shelves l 0 (columns l);
  rows = record { shelves = record { used = columns l; freed = [] }; items = record { used = columns l; freed = [] } };
}
