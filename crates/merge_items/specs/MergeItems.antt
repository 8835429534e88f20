-- A live item made free, and merged with its free neighbours in the shelf. Assumes nothing.
use Rattle.std.specs.Prelude.{◌&&◌, ◌≡◌}
use Rattle.numbers.specs.Library.{ℕ, Bool, not, List, eqb}
use Rattle.numbers.specs.Prelude.{pick, no_row}
use Rattle.numbers.specs.declared.index.ItemIndex.{ItemIndex}
use Rattle.rows.specs.Prelude.{item_at, change_item}
use Rattle.pool.specs.Pool.{item_freed}
use Rattle.rows.specs.declared.header.Header.{Header}
use Rattle.merge_items.specs.declared.Loosened.{Loosened}
use Rattle.item_edits.specs.ItemEdits.{mark_free, unlist, enlist, join_next, first_after}

-- The item table, the header, and the first row of the shelf's free list, on the way through a release.
pub record Loose : Type 0 where
  pub items : List ℕ
  pub header : Header
  pub first : ItemIndex

abbrev pub loose : Header → ItemIndex → List ℕ → Loose
loose h first I = record { items = I; header = h; first = first }

-- the code's answer and the item table are those of such a state
pub record AreLoose (m : Loose) (r : Loosened) (I : List ℕ) : Type 0 where
  pub header : r.header ≡ m.header
  pub first : r.first ≡ m.first
  pub items : I ≡ m.items

-- there is an item in this row, and it is free
unfoldable pub is_free_item : List ℕ → ItemIndex → Bool
is_free_item I at = not (eqb at.0 no_row) && eqb (item_at I at).allocated 0

-- "Merge a free next item in (its row freed)." It leaves the free list first.
unfoldable pub absorb_next : Loose → ItemIndex → Loose
absorb_next m at =
    let next : ItemIndex = (item_at m.items at).next in
    record {
      items = join_next m.header (unlist m.items next) at;
      header = item_freed m.header next;
      first = first_after m.first next (item_at m.items next).next_unallocated;
    }

unfoldable pub merge_next : Loose → ItemIndex → Loose
merge_next m at = pick (is_free_item m.items (item_at m.items at).next) (absorb_next m at) m

-- "Then, if the previous item is free, merge into it (own row freed), else go to the front of the free list."
unfoldable pub merge_into : Loose → ItemIndex → Loose
merge_into m at =
    let prev : ItemIndex = (item_at m.items at).prev in
    pick (is_free_item m.items prev)
    (record { items = join_next m.header m.items prev; header = item_freed m.header (item_at m.items prev).next; first = m.first })
    (record { items = enlist m.items m.first at; header = m.header; first = at })

unfoldable pub loosen : Loose → ItemIndex → Loose
loosen m at = merge_into (merge_next (record { items = change_item m.items at mark_free; header = m.header; first = m.first }) at) at

-- "If one item is left, the shelf is empty": its first item is free and has no next
unfoldable pub one_free_of : List ℕ → ItemIndex → Bool
one_free_of I first = eqb (item_at I first).allocated 0 && eqb (item_at I first).next.0 no_row
