-- Live items in the tables: whether an id names one, what an answer tells of one, its area, and the live rows by rising row. Assumes nothing.
use Rattle.std.specs.Prelude.{◌+◌, ◌-◌, ◌*◌, ◌≤◌, ◌<◌, ◌≡◌, ◌&&◌, ◌∷◌, ◌++◌}
use Rattle.numbers.specs.Library.{ℕ, zero, suc, refl, Bool, true, false, List, [], arith, ltb, eqb, ltb-true, eqb-true}
use Rattle.numbers.specs.Prelude.{pick, both, first_axis, second_axis}
use Rattle.numbers.specs.declared.index.ItemIndex.{ItemIndex}
use Rattle.rows.specs.Prelude.{item_capacity, item_at, shelf_capacity, shelf_at_of}
use Rattle.rows.specs.declared.{header.Header.Header, item.ItemRow.ItemRow, shelf.ShelfRow.ShelfRow, live.Live.Live}
use Rattle.wrap.specs.Wrap.{plus16}

abbrev pub at_row : ℕ → ItemIndex
at_row row = record { 0 = row }

-- the row is used, and holds a live item of this generation
unfoldable pub is_live_of : Header → List ℕ → ℕ → ℕ → Bool
is_live_of h I row generation =
    ltb row h.used_items && (eqb (item_at I (at_row row)).allocated 1 && eqb (item_at I (at_row row)).generation generation)

-- the id of item i, which lies in this row on shelf s, and its rectangle; with vertical shelves x and y change places
unfoldable pub live_of_rows : Header → ShelfRow → ItemRow → ℕ → Live
live_of_rows h s i row = record {
  row = row;
  generation = i.generation;
  x0 = first_axis h.limits.vertical i.x s.y;
  y0 = second_axis h.limits.vertical i.x s.y;
  x1 = first_axis h.limits.vertical (plus16 i.x i.width) (plus16 s.y s.height);
  y1 = second_axis h.limits.vertical (plus16 i.x i.width) (plus16 s.y s.height);
}

unfoldable pub live_at : Header → List ℕ → List ℕ → ℕ → Live
live_at h S I row = let i : ItemRow = item_at I (at_row row) in live_of_rows h (shelf_at_of S i.shelf) i row

-- the area of the item in row `at`
unfoldable pub area_at : List ℕ → List ℕ → ItemIndex → ℕ
area_at S I at = let i : ItemRow = item_at I at in i.width * (shelf_at_of S i.shelf).height

-- no live item has no area, so an atlas is empty when nothing is occupied
unfoldable pub is_vacant : Header → Bool
is_vacant h = eqb h.occupied 0

-- ---- rows that are there

-- the used rows are, and so is the shelf of each live one
pub record LiveRowsThere (h : Header) (S I : List ℕ) : Type 0 where
  pub used_there : h.used_items ≤ item_capacity I
  pub shelf_there : (r : ℕ) → r < h.used_items → (item_at I (at_row r)).allocated ≡ 1 → (item_at I (at_row r)).shelf.0 < shelf_capacity S

module _ {h : Header} {S I : List ℕ} (there : LiveRowsThere h S I) where
  -- so is the shelf of a live row that has been read
  pub shelf_of_read : (r : ℕ) → r < h.used_items → (i : ItemRow) → i ≡ item_at I (at_row r) → i.allocated ≡ 1 → i.shelf.0 < shelf_capacity S
  shelf_of_read r b i read live = rw read (there.shelf_there r b (rw read at live))

  -- and the id of a live item names such a row
  pub live_there : (row generation : ℕ) → is_live_of h I row generation ≡ true → (row < item_capacity I) × ((item_at I (at_row row)).shelf.0 < shelf_capacity S)
  unfolding is_live_of
  live_there row generation e =
      let (used, this) = both (ltb row h.used_items) _ e in
      let b : row < h.used_items = ltb-true _ _ used in
      (omega (arith, there.used_there), there.shelf_there row b (eqb-true _ _ (both (eqb (item_at I (at_row row)).allocated 1) _ this).0))

-- ---- by rising row

-- what is listed of one row, and of the first n rows
unfoldable pub row_listed : Header → List ℕ → List ℕ → ℕ → List Live
row_listed h S I row = pick (eqb (item_at I (at_row row)).allocated 1) (live_at h S I row ∷ []) []

unfoldable pub rows_listed : Header → List ℕ → List ℕ → ℕ → List Live
rows_listed h S I zero = []
rows_listed h S I (suc n) = rows_listed h S I n ++ row_listed h S I n

-- how many live rows are among the next `steps` rows from `row` on, and among all used rows
unfoldable pub live_one : List ℕ → ℕ → ℕ
live_one I row = pick (eqb (item_at I (at_row row)).allocated 1) 1 0

pub one_few : (I : List ℕ) (row n : ℕ) → n ≡ live_one I row → n ≤ 1
unfolding live_one
one_few I row n e = rw e (go (eqb (item_at I (at_row row)).allocated 1)) where
  go : (a : Bool) → pick a 1 0 ≤ 1
  go true = omega arith
  go false = omega arith

unfoldable pub live_count_from : List ℕ → ℕ → ℕ → ℕ
live_count_from I row zero = 0
live_count_from I row (suc steps) = live_one I row + live_count_from I (row + 1) steps

unfoldable pub live_count : List ℕ → ℕ → ℕ
live_count I used = live_count_from I 0 used

-- ---- a count with no step left, and with one more

pub count_start : (I : List ℕ) (used : ℕ) → live_count_from I 0 used ≡ 0 + live_count_from I 0 (used - 0)
count_start I used = let e : used - 0 ≡ used = omega arith in rw e (omega arith)

pub count_none : (I : List ℕ) (row : ℕ) → live_count_from I row 0 ≡ 0
unfolding live_count_from
count_none I row = refl

pub count_step : (I : List ℕ) (row steps : ℕ) → 0 < steps
    → live_count_from I row steps ≡ live_one I row + live_count_from I (row + 1) (steps - 1)
unfolding live_count_from
count_step I row zero h = absurd (omega arith)
count_step I row (suc steps) h = let e : suc steps - 1 ≡ steps = omega arith in rw e
