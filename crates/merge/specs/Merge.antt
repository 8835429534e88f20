-- A live item released: it is merged with its free neighbours, and an emptied shelf with its empty ones. Assumes nothing.
use Rattle.std.specs.Prelude.{◌&&◌}
use Rattle.numbers.specs.Library.{ℕ, Bool, List, eqb}
use Rattle.numbers.specs.Prelude.{pick}
use Rattle.numbers.specs.declared.{index.ItemIndex.ItemIndex, index.ShelfIndex.ShelfIndex}
use Rattle.rows.specs.Prelude.{with_occupied, item_at, shelf_at_of, change_shelf}
use Rattle.rows.specs.declared.header.Header.{Header}
use Rattle.rules.specs.Prelude.{flag}
use Rattle.wrap.specs.Wrap.{minus32}
use Rattle.rows.specs.State.{State}
use Rattle.shelf_edits.specs.ShelfEdits.{with_free, merge_shelves}
use Rattle.search.specs.Search.{shelf_is_empty}
use Rattle.live_rows.specs.Live.{area_at}
use Rattle.merge_items.specs.MergeItems.{Loose, loosen, one_free_of}

-- ---- shelves

-- two empty shelves of one column; no row is no empty shelf
unfoldable pub joins : List ℕ → ShelfIndex → ShelfIndex → Bool
joins S above at =
    shelf_is_empty (shelf_at_of S above) && (shelf_is_empty (shelf_at_of S at) && eqb (shelf_at_of S above).x (shelf_at_of S at).x)

-- "merge an empty next shelf of the same column in"
unfoldable pub merge_below : State → ShelfIndex → State
merge_below st at =
    let next : ShelfIndex = (shelf_at_of st.shelves at).next in
    pick (joins st.shelves at next) (merge_shelves st at next) st

-- "then merge into an empty previous one of that column"
unfoldable pub merge_above : State → ShelfIndex → State
merge_above st at =
    let prev : ShelfIndex = (shelf_at_of st.shelves at).prev in
    pick (joins st.shelves prev at) (merge_shelves st prev at) st

-- ---- a release

-- so much less is occupied
unfoldable pub with_area_removed : Header → ℕ → Header
with_area_removed h area = with_occupied (minus32 h.occupied area) h

-- the item in row `at` of the shelf `on` is free, and merged with its free neighbours
unfoldable pub loosened : State → ShelfIndex → ItemIndex → Loose
loosened st on at = loosen (record { items = st.items; header = with_area_removed st.header (area_at st.shelves st.items at); first = (shelf_at_of st.shelves on).first_unallocated }) at

unfoldable pub release_item : State → ShelfIndex → ItemIndex → State
release_item st on at =
    let m : Loose = loosened st on at in
    record {
      header = m.header;
      shelves = change_shelf st.shelves on (with_free m.first (flag (one_free_of m.items (shelf_at_of st.shelves on).first_item)));
      items = m.items;
    }

unfoldable pub release_at : State → ItemIndex → State
release_at st at =
    let on : ShelfIndex = (item_at st.items at).shelf in
    merge_above (merge_below (release_item st on at) on) on
