-- An empty shelf split in two, and two shelves merged, with the item row that a shelf brings or leaves. Assumes nothing.
use Rattle.std.specs.Prelude.{◌≡◌}
use Rattle.numbers.specs.Library.{ℕ, List, length}
use Rattle.numbers.specs.declared.{index.ItemIndex.ItemIndex, index.ShelfIndex.ShelfIndex}
use Rattle.rows.specs.Prelude.{length-put, length-change, shelf_at_of, change_shelf, with_y, with_height, with_shelf_prev, with_shelf_next, with_first_item, with_first_free}
use Rattle.rows.specs.Prelude.{with_empty}
use Rattle.pool.specs.Pool.{new_item, add_item, item_taken, new_shelf, add_shelf, shelf_taken, remove_item, remove_shelf, remove_shelf_item, shelf_freed}
use Rattle.rows.specs.declared.{header.Header.Header, shelf.ShelfRow.ShelfRow}
use Rattle.wrap.specs.Wrap.{plus16, minus16}
use Rattle.rows.specs.State.{State}
use Rattle.item_edits.specs.ItemEdits.{lone_item}

-- ---- a shelf row changed

-- height and next
unfoldable pub with_reach : ℕ → ShelfIndex → ShelfRow → ShelfRow
with_reach height next s = with_height height (with_shelf_next next s)

-- the first free item, and the empty flag
unfoldable pub with_free : ItemIndex → ℕ → ShelfRow → ShelfRow
with_free first empty s = with_first_free first (with_empty empty s)

-- ---- a shelf in two: its row keeps `depth`, and a new empty shelf with one item of width S follows it

-- what is left of shelf s, which lies in row `at`
unfoldable pub lower_of : ShelfRow → ShelfIndex → ℕ → ItemIndex → ShelfRow
lower_of s at depth item =
    with_y (plus16 s.y depth) (with_height (minus16 s.height depth) (with_shelf_prev at (with_first_item item (with_first_free item (with_empty 1 s)))))

unfoldable pub split_shelf_table : Header → List ℕ → ShelfIndex → ShelfRow → ℕ → List ℕ
split_shelf_table h S at s depth =
    change_shelf (change_shelf (add_shelf S h (lower_of s at depth (new_item h))) at (with_reach depth (new_shelf h))) s.next (with_shelf_prev (new_shelf h))

-- shelf s, which lies in row `at`: the shelf row is taken first, then the item row
unfoldable pub split_shelf : State → ShelfIndex → ShelfRow → ℕ → State
split_shelf st at s depth =
    let h : Header = shelf_taken st.shelves st.header in
    record {
      header = item_taken st.items h;
      shelves = split_shelf_table st.header st.shelves at s depth;
      items = add_item st.items h (lone_item s.x st.header.limits.shelf_width (new_shelf st.header));
    }

-- ---- the shelf in row `at` merged into `above`, which it follows: its item row is freed, then its shelf row

unfoldable pub join_shelves : List ℕ → ShelfIndex → ShelfIndex → List ℕ
join_shelves S above at =
    let a : ShelfRow = shelf_at_of S above in
    let s : ShelfRow = shelf_at_of S at in
    change_shelf (change_shelf S above (with_reach (plus16 a.height s.height) s.next)) s.next (with_shelf_prev above)

unfoldable pub merge_shelves : State → ShelfIndex → ShelfIndex → State
merge_shelves st above at =
    let S : List ℕ = join_shelves st.shelves above at in
    record {
      header = shelf_freed S st.header at;
      shelves = remove_shelf S st.header at;
      items = remove_shelf_item S st.items st.header at;
    }

-- ---- no edit changes a table's length

pub length-split_shelf : (st : State) (at : ShelfIndex) (s : ShelfRow) (depth : ℕ)
    → (length (split_shelf st at s depth).shelves ≡ length st.shelves) × (length (split_shelf st at s depth).items ≡ length st.items)
unfolding split_shelf split_shelf_table add_item add_shelf
length-split_shelf st at s depth = (simp (length-change, length-put), simp length-put)

pub length-merge_shelves : (st : State) (above at : ShelfIndex)
    → (length (merge_shelves st above at).shelves ≡ length st.shelves) × (length (merge_shelves st above at).items ≡ length st.items)
unfolding merge_shelves join_shelves remove_shelf remove_shelf_item remove_item
length-merge_shelves st above at = (simp (length-change, length-put), simp length-put)
