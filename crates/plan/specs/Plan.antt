-- The plan of a grant at a place: what is granted of its shelf and its item, and what is told of it. Nothing is written. Assumes nothing.
use Rattle.std.specs.Prelude.{◌&&◌}
use Rattle.numbers.specs.Library.{ℕ, Bool, List}
use Rattle.numbers.specs.Prelude.{pick, large_enough_to_split}
use Rattle.numbers.specs.declared.request.Asked.{Asked}
use Rattle.rows.specs.Prelude.{item_at, shelf_at_of, with_width, with_height}
use Rattle.rows.specs.declared.{header.Header.Header, item.ItemRow.ItemRow, live.Live.Live, shelf.ShelfRow.ShelfRow}
use Rattle.live_rows.specs.Live.{live_of_rows}
use Rattle.search.specs.declared.Place.{Place}
use Rattle.search.specs.Search.{shelf_is_empty}
use Rattle.plan.specs.declared.Plan.{Plan}
use Rattle.plan.specs.Spare.{enough_rows}

-- "An empty shelf deeper than D + 8 is split", "an item more than 8 wider than asked is split"
unfoldable pub splits_shelf : Asked → ShelfRow → Bool
splits_shelf a s = shelf_is_empty s && large_enough_to_split a.depth s.height

unfoldable pub splits_item : Asked → ItemRow → Bool
splits_item a i = large_enough_to_split a.width i.width

-- the id and the rectangle, of this width and depth, of what is granted of item i on shelf s
unfoldable pub told : Header → ShelfRow → ItemRow → ℕ → ℕ → ℕ → Live
told h s i row width depth = live_of_rows h (with_height depth s) (with_width width i) row

-- "Otherwise the rectangle has the shelf's depth", "otherwise the rectangle has the item's width"
unfoldable pub plan_at : Header → List ℕ → List ℕ → Place → Asked → Plan
plan_at h S I p a =
    let s : ShelfRow = shelf_at_of S p.shelf in
    let i : ItemRow = item_at I p.item in
    let width : ℕ = pick (splits_item a i) a.width i.width in
    let depth : ℕ = pick (splits_shelf a s) a.depth s.height in
    record {
      shelf = p.shelf;
      item = p.item;
      shelf_row = s;
      item_row = i;
      shelf_split = splits_shelf a s;
      item_split = splits_item a i;
      width = width;
      depth = depth;
      live = told h s i p.item.0 width depth;
    }

-- the rows left suffice for it
unfoldable pub has_rows : Header → List ℕ → List ℕ → Plan → Bool
has_rows h S I p = enough_rows h S I p.shelf_split p.item_split
