-- A grant as it was planned: shelf and item are split where the plan says so, and the item is live. Nothing is decided here. Assumes nothing.
use Rattle.std.specs.Prelude.{◌*◌, ◌<◌, ◌≡◌}
use Rattle.numbers.specs.Library.{ℕ, ap, Bool, true, false, List, length}
use Rattle.numbers.specs.Prelude.{pick}
use Rattle.numbers.specs.declared.index.ItemIndex.{ItemIndex}
use Rattle.rows.specs.Prelude.{rows, rows_long, items, shelves, Linked, with_occupied, change_item, change_shelf}
use Rattle.pool.specs.Pool.{new_item, item_taken}
use Rattle.rows.specs.declared.header.Header.{Header}
use Rattle.plan.specs.declared.Plan.{Plan}
use Rattle.wrap.specs.Wrap.{plus32}
use Rattle.rows.specs.State.{State}
use Rattle.item_edits.specs.ItemEdits.{mark_live, unlist_row, relist, split_item, first_after}
use Rattle.shelf_edits.specs.ShelfEdits.{with_free, split_shelf}

-- What a grant relies on: the rows of its shelf and item are there, and so are those that the item links to. It follows from an audit that passes.
pub record PlanThere (S I : List ℕ) (p : Plan) : Type 0 where
  pub shelf : p.shelf.0 < rows shelves S
  pub item : p.item.0 < rows items I
  pub links : Linked (rows items I) p.item_row

-- it is a matter of how long the tables are
pub there_long : {S I S' I' : List ℕ} (p : Plan) → length S' ≡ length S → length I' ≡ length I → PlanThere S I p → PlanThere S' I' p
there_long {S} {I} {S'} {I'} p s i t =
    let es : rows shelves S' ≡ rows shelves S = rows_long shelves S' S s in
    let ei : rows items I' ≡ rows items I = rows_long items I' I i in
    record { shelf = rw es t.shelf; item = rw ei t.item; links = rw ei t.links }

unfoldable pub fit_shelf : State → Plan → State
fit_shelf st p = pick p.shelf_split (split_shelf st p.shelf p.shelf_row p.depth) st

-- ---- the shelf is in use, and names another row as the first free one where that was the item granted

unfoldable pub use_shelf : List ℕ → Plan → ItemIndex → List ℕ
use_shelf S p new = change_shelf S p.shelf (with_free (first_after p.shelf_row.first_unallocated p.item new) 0)

-- the left part of the item granted; the new free item takes its place in the free list
unfoldable pub take_part_items : Header → List ℕ → Plan → List ℕ
take_part_items h I p = change_item (relist (split_item h I p.item p.item_row p.width) p.item_row (new_item h)) p.item mark_live

unfoldable pub take_part : State → Plan → State
take_part st p = record {
  header = item_taken st.items st.header;
  shelves = use_shelf st.shelves p (new_item st.header);
  items = take_part_items st.header st.items p;
}

-- the whole item granted
unfoldable pub take_whole_items : List ℕ → Plan → List ℕ
take_whole_items I p = change_item (unlist_row I p.item_row) p.item mark_live

unfoldable pub take_whole : State → Plan → State
take_whole st p = record {
  header = st.header;
  shelves = use_shelf st.shelves p p.item_row.next_unallocated;
  items = take_whole_items st.items p;
}

unfoldable pub take_item : State → Plan → State
take_item st p = pick p.item_split (take_part st p) (take_whole st p)

-- as the plan says. (`rw e` with e : p.item_split ≡ b would take the record p apart.)
module _ (st : State) (p : Plan) where
  pub fits_split : p.shelf_split ≡ true → fit_shelf st p ≡ split_shelf st p.shelf p.shelf_row p.depth
  unfolding fit_shelf
  fits_split e = ap (λ (b : Bool). pick b (split_shelf st p.shelf p.shelf_row p.depth) st) e

  pub fits_whole : p.shelf_split ≡ false → fit_shelf st p ≡ st
  unfolding fit_shelf
  fits_whole e = ap (λ (b : Bool). pick b (split_shelf st p.shelf p.shelf_row p.depth) st) e

  pub takes_part : p.item_split ≡ true → take_item st p ≡ take_part st p
  unfolding take_item
  takes_part e = ap (λ (b : Bool). pick b (take_part st p) (take_whole st p)) e

  pub takes_whole : p.item_split ≡ false → take_item st p ≡ take_whole st p
  unfolding take_item
  takes_whole e = ap (λ (b : Bool). pick b (take_part st p) (take_whole st p)) e

-- so much more is occupied
unfoldable pub with_area_added : Header → ℕ → Header
with_area_added h area = with_occupied (plus32 h.occupied area) h

unfoldable pub grant_at : State → Plan → State
grant_at st p =
    let t : State = take_item (fit_shelf st p) p in
    record { header = with_area_added t.header (p.width * p.depth); shelves = t.shelves; items = t.items }
