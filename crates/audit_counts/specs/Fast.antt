-- What the fast walk finds, which can say yes and nothing else: one run along each shelf's items, which leaves the alignment of the widths to one test
-- at its end. `I` is the item table throughout. Assumes nothing.
use Rattle.std.specs.Prelude.{◌+◌, ◌%◌, ◌^◌, ◌≤◌, ◌<◌, ◌≡◌}
use Rattle.numbers.specs.Library.{ℕ, List}
use Rattle.std.specs.Int.Bits.{bit_or}
use Rattle.numbers.specs.Prelude.{no_row}
use Rattle.rows.specs.Prelude.{get, items}
use Rattle.rows.specs.declared.{header.Header.Header, item.ItemRow.ItemRow, shelf.ShelfRow.ShelfRow}
use Rattle.rules.specs.Prelude.{sum_over}
use Rattle.audit_counts.specs.Counts.{rows_of, Small}

-- ---- one item

-- a live item of the shelf in row `on`, in no free list
pub record LiveOf (on : ℕ) (i : ItemRow) : Type 0 where
  pub named : i.shelf.0 ≡ on
  pub is_live : i.allocated ≡ 1
  pub prev_none : i.prev_unallocated.0 ≡ no_row
  pub next_none : i.next_unallocated.0 ≡ no_row

-- a free item of the shelf in row `on`
pub record FreeOf (on : ℕ) (i : ItemRow) : Type 0 where
  pub named : i.shelf.0 ≡ on
  pub is_free : i.allocated ≡ 0

-- an item that can stand at x, after the row `prev`
pub record Fits (prev x : ℕ) (i : ItemRow) : Type 0 where
  pub back : i.prev.0 ≡ prev
  pub at_x : i.x ≡ x
  pub some_width : 1 ≤ i.width

-- ---- a run of live items

-- Where a walk along a shelf's items has come to: the row, the row before, the place; how many items were passed, and their widths, or-ed.
pub record Mark : Type 0 where
  pub cur : ℕ
  pub prev : ℕ
  pub x : ℕ
  pub count : ℕ
  pub widths : ℕ

-- past the item i
abbrev pub over : ItemRow → Mark → Mark
over i m = record { cur = i.next.0; prev = m.cur; x = m.x + i.width; count = m.count + 1; widths = bit_or m.widths i.width }

-- from m on, past live items of the shelf in row `on` and no others
pub data Lives (I : List ℕ) (used on : ℕ) (m : Mark) : Mark → Type 0 where
  none : Lives I used on m m
  past : {n : Mark} → Lives I used on m n → n.cur < used → LiveOf on (get items I n.cur) → Fits n.prev n.x (get items I n.cur) → Small (get items I n.cur)
      → Lives I used on m (over (get items I n.cur) n)

-- ---- the items of a shelf, but for their alignment

-- a header with alignments of 1, under which every width is aligned
unfoldable pub loose : Header → Header
loose h = record {
  limits = record {
    width = h.limits.width;
    height = h.limits.height;
    align_width = 1;
    align_height = 1;
    vertical = h.limits.vertical;
    shelf_width = h.limits.shelf_width;
  };
  used_shelves = h.used_shelves;
  used_items = h.used_items;
  free_items = h.free_items;
  free_shelves = h.free_shelves;
  occupied = h.occupied;
}

-- how far a width is past a multiple of a power of two
abbrev pub odd_of : ℕ → List ℕ → ℕ → ℕ
odd_of k I r = (get items I r).width % 2 ^ k

-- `widths`, or-ed to `all`, are those of the items of shelf s: no power of two divides them unless it divides each
unfoldable pub Even : Header → List ℕ → ShelfRow → ℕ → ℕ → Type 0
Even h I s all widths = (k : ℕ) → widths % 2 ^ k ≡ 0 → (all % 2 ^ k ≡ 0) × (sum_over (odd_of k I) (rows_of h I s) ≡ 0)
