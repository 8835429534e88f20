-- What the walk of a shelf's items tells: where a run of live items ends, and what a shelf's items are if it says yes. Assumes nothing.
use Rattle.std.specs.Prelude.{◌+◌, ◌-◌, ◌*◌, ◌%◌, ◌≤◌, ◌≡◌, Some}
use Rattle.numbers.specs.Library.{ℕ, List, length}
use Rattle.std.specs.Int.Bits.{bit_or}
use Rattle.numbers.specs.Prelude.{no_row}
use Rattle.rows.specs.Prelude.{get, items, item_start}
use Rattle.rows.specs.declared.{header.Header.Header, item.ItemRow.ItemRow, shelf.ShelfRow.ShelfRow}
use Rattle.chains.specs.Prelude.{first_of, Ends}
use Rattle.audit_counts.specs.Counts.{ShelfTallied}
use Rattle.audit_counts.specs.Fast.{Mark, Lives, loose, Even}
use Rattle.fast_items.specs.declared.{Passed.Passed, Walked.Walked}

-- ---- places

-- the place that is told
abbrev pub mark_of : Passed → Mark
mark_of p = record { cur = p.cur; prev = p.prev; x = p.x; count = p.count; widths = p.widths }

-- before the first item of shelf s, after `met` items of other shelves
abbrev pub start_of : ShelfRow → (met all : ℕ) → Passed
start_of s met all = record { cur = s.first_item.0; start = item_start s.first_item.0; prev = no_row; x = s.x; count = met; widths = all }

-- past the item i
abbrev pub passed : Passed → ItemRow → Passed
passed p i = record {
  cur = i.next.0;
  start = item_start i.next.0;
  prev = p.cur;
  x = p.x + i.width;
  count = p.count + 1;
  widths = bit_or p.widths i.width;
}

-- an item that can stand after the row `prev`, and starts where the low half of x says
pub record Near (prev x : ℕ) (i : ItemRow) : Type 0 where
  pub back : i.prev.0 ≡ prev
  pub at_x : i.x ≡ x % 65536
  pub some_width : 1 ≤ i.width

abbrev pub item_prev : List ℕ → ℕ → ℕ
item_prev I r = (get items I r).prev.0

-- What every place keeps. The rows that were passed on this shelf, the nearest first, are linked back to the first one: so none is passed twice, they
-- are no more than the used ones, and with them the place and the count are bounded.
pub record Kept (I : List ℕ) (used : ℕ) (p : Passed) : Type 0 where
  pub start_is : p.start ≡ item_start p.cur
  pub behind : List ℕ
  pub linked : Ends (item_prev I) used behind
  pub prev_is : p.prev ≡ first_of behind
  pub count_most : p.count ≤ 65535 + length behind
  pub x_most : p.x ≤ 65535 + length behind * 65535

-- the place after the last item of shelf s
pub record Ended (h : Header) (s : ShelfRow) (p : Passed) : Type 0 where
  pub stop : p.cur ≡ no_row
  pub few : p.count ≤ h.used_items
  pub wide : p.x ≡ s.x + h.limits.shelf_width
  pub narrow : p.x ≤ 65535

-- ---- what is told

-- from p on, live items were passed, and no others, if the place is below 65536
pub record LivesPast (I : List ℕ) (used on : ℕ) (p r : Passed) : Type 0 where
  pub lives : r.x ≤ 65535 → Lives I used on (mark_of p) (mark_of r)
  pub kept : Kept I used r
  pub more : p.count ≤ r.count
  pub further : p.x ≤ r.x

-- at the end of a shelf's items, and these are the counts
pub record EndsSo (h : Header) (s : ShelfRow) (p : Passed) (free gap : ℕ) (w : Walked) : Type 0 where
  pub ended : Ended h s p
  pub counts : w ≡ record { count = p.count; free = free; gap = gap; widths = p.widths }

-- The items of the shelf in row `on` are right but for their alignment, and these are the counts. Those of items go on from `met`, and the widths are or-ed
-- to `all`.
pub record Walks (h : Header) (I : List ℕ) (on : ℕ) (s : ShelfRow) (met all : ℕ) (w : Walked) : Type 0 where
  pub tallied : ShelfTallied (loose h) I on s (Some (record { count = w.count - met; free = w.free; live = h.limits.shelf_width - w.gap; stray = 0 }))
  pub more : met ≤ w.count
  pub few : w.count ≤ h.used_items
  pub gap_most : w.gap ≤ h.limits.shelf_width
  pub free_most : w.free ≤ h.used_items
  pub even : Even h I s all w.widths
