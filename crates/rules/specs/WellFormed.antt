-- What an atlas keeps from call to call: its shelves fill the columns, its items fill the shelves, and every row serves once. Assumes nothing.
use Rattle.std.specs.Prelude.{◌+◌, ◌*◌, ◌%◌, ◌≤◌, ◌<◌, ◌≡◌, ◌&&◌, ◌∷◌}
use Rattle.numbers.specs.Library.{ℕ, false, not, List, [], eqb}
use Rattle.numbers.specs.Prelude.{pick, along_step, columns, WithinLimits}
use Rattle.numbers.specs.declared.limits.Limits.{Limits}
use Rattle.chains.specs.Prelude.{◌∈◌, ◌iff◌, Distinct, Each, Neighbours, gather, first_row}
use Rattle.rules.specs.Atlas.{Item, Shelf, Freed, Rows, Atlas, Room}
use Rattle.rules.specs.Release.{joins}
use Rattle.rules.specs.Stores.{free_rows}

-- ---- shelves: columns at 0, S, 2S and so on to C of them; in each, depths run from 0 to H; no two empty shelves adjoin

unfoldable pub Stacked : Limits → ℕ → ℕ → List Shelf → Type 0
unfolding columns
Stacked l column y [] = (column ≡ columns l) × (y ≡ 0)
Stacked l column y (s ∷ rest) =
    (s.x ≡ column * l.shelf_width)
    × (s.y ≡ y)
    × (1 ≤ s.depth)
    × (y + s.depth ≤ l.height)
    × pick (eqb (y + s.depth) l.height) (Stacked l (column + 1) 0 rest) (Stacked l column (y + s.depth) rest)

abbrev pub NotBothEmpty : Shelf → Shelf → Type 0
NotBothEmpty s t = joins s t ≡ false

-- ---- items: they run from the shelf's x for S; widths are positive multiples of the along alignment; no two free items adjoin

unfoldable pub Filled : Limits → ℕ → ℕ → List Item → Type 0
unfolding along_step
Filled l x end [] = x ≡ end
Filled l x end (i ∷ rest) = (i.x ≡ x) × (1 ≤ i.width) × (i.width % along_step l ≡ 0) × Filled l (x + i.width) end rest

abbrev pub NotBothFree : Item → Item → Type 0
NotBothFree i j = not i.live && not j.live ≡ false

-- ---- the rows that serve

abbrev pub shelf_rows_of : List Shelf → List ℕ
shelf_rows_of = gather (λ (s : Shelf). s.row ∷ [])

abbrev pub item_rows_of : List Item → List ℕ
item_rows_of = gather (λ (i : Item). i.row ∷ [])

abbrev pub all_item_rows : List Shelf → List ℕ
all_item_rows = gather (λ (s : Shelf). item_rows_of s.items)

abbrev pub freed_rows : List Freed → List ℕ
freed_rows = gather (λ (f : Freed). f.row ∷ [])

-- a free list holds only its shelf's free items, once each; and all of them
pub record FreeListed (s : Shelf) : Type 0 where
  pub once : Distinct s.free
  pub only : (r : ℕ) → r ∈ s.free → r ∈ free_rows s.items

abbrev pub AllListed : Shelf → Type 0
AllListed s = (r : ℕ) → r ∈ free_rows s.items → r ∈ s.free

-- Of one table: the rows on the chains are used rows, and no row serves twice; the freed chain holds exactly the other used rows, once each.
pub record Shared (used : ℕ) (serving freed : List ℕ) : Type 0 where
  pub serving_once : Distinct serving
  pub serving_used : (r : ℕ) → r ∈ serving → r < used
  pub freed_once : Distinct freed
  pub freed_exactly : (r : ℕ) → (r ∈ freed) iff ((r < used) × (¬ (r ∈ serving)))

pub record WithinRoom (room : Room) (r : Rows) : Type 0 where
  pub shelves : r.shelves.used ≤ room.shelves
  pub items : r.items.used ≤ room.items

-- What every change of the tables keeps, also half way through a release: rows are where they serve, and nowhere else.
pub record Sound (room : Room) (a : Atlas) : Type 0 where
  pub in_room : WithinRoom room a.rows
  pub free_listed : Each FreeListed a.shelves
  pub shelf_rows : Shared a.rows.shelves.used (shelf_rows_of a.shelves) a.rows.shelves.freed
  pub item_rows : Shared a.rows.items.used (all_item_rows a.shelves) (freed_rows a.rows.items.freed)

-- The shape of an atlas: what rules 2, 3 and 5 ask beside the links.
pub record Shaped (a : Atlas) : Type 0 where
  pub limits : WithinLimits a.limits
  pub first : first_row (λ (s : Shelf). s.row) a.shelves ≡ 0
  pub stacked : Stacked a.limits 0 0 a.shelves
  pub empty_apart : Neighbours NotBothEmpty a.shelves
  pub filled : Each (λ s. Filled a.limits s.x (s.x + a.limits.shelf_width) s.items) a.shelves
  pub free_apart : Each (λ s. Neighbours NotBothFree s.items) a.shelves
  pub all_listed : Each AllListed a.shelves

pub record WellFormed (room : Room) (a : Atlas) : Type 0 where
  pub sound : Sound room a
  pub shaped : Shaped a
