-- The item of a grant, once its shelf fits: what the rules make of it, and that the step writes rows in use only. What stands in the tables then is in
-- `Items/WholeOrPart`. Assumes nothing.
use Rattle.std.specs.Prelude.{◌≤◌, ◌<◌, ◌≡◌, ◌∷◌}
use Rattle.numbers.specs.Library.{refl, ap, ◌∙◌, inl, inr, ℕ, Bool, true, false, List, [], List·Memᴰ·head, Memᴰ·append-left, arith}
use Rattle.numbers.specs.Prelude.{pick}
use Rattle.numbers.specs.declared.request.Asked.{Asked}
use Rattle.chains.specs.Prelude.{◌∈◌, Each, Focus, back_onto}
use Rattle.chains.proofs.Prelude.{in_onto}
use Rattle.rows.specs.Prelude.{rows, Past, items, shelves, Linked, LinksWithin}
use Rattle.pool.specs.Pool.{new_item}
use Rattle.rows.specs.declared.header.Header.{Header}
use Rattle.rules.specs.Prelude.{Item, Shelf, Rows, Atlas, new_row, taken, rows_left_of, splits_item, item_taken, granted_item, grant_whole, grant_part, live_of}
use Rattle.rules.specs.Prelude.{grants, grant_item, header_of, item_rows_of, all_item_rows, AllListed}
use Rattle.rows.specs.State.{State}
use Rattle.live_rows.specs.Live.{at_row}
use Rattle.plan.specs.declared.Plan.{Plan}
use Rattle.grant.specs.Grant.{take_part, take_whole, take_item, takes_part, takes_whole}
use Rattle.bridge.proofs.Stands.{Stands, used_items_lem}
use Rattle.bridge.proofs.Items.PoolRows.{freed_row, Fresh, fresh, item_new}
use Rattle.bridge.proofs.Items.GrantItem.{PlanFor}
use Rattle.bridge.proofs.UsedLinks.{links-within}
use Rattle.bridge.proofs.GrantWrites.{TakenRow, taken_row, whole_past, part_past, use_past}

-- the atlas in which the shelf of the place stands before `below`
abbrev pub before_grant : Atlas → Focus Shelf → List Shelf → Rows → Atlas
before_grant a shelf_at below r = record { limits = a.limits; shelves = back_onto shelf_at.before (shelf_at.this ∷ below); rows = r }

-- the width granted
abbrev pub width_of : Asked → Item → ℕ
width_of asked i = pick (splits_item asked i) asked.width i.width

-- What a grant at a place comes to: the atlas after it, what is told of it, and tables changed in used rows only.
pub record Placement (a : Atlas) (asked : Asked) (shelf_at : Focus Shelf) (item_at_of : Focus Item) (below : List Shelf) (r : Rows) (st : State) (p : Plan) : Type 0 where
  pub after : Atlas
  pub is : grant_item a asked shelf_at item_at_of below r ≡ grants (live_of a.limits shelf_at.this (granted_item item_at_of.this (width_of asked item_at_of.this))) after
  pub more_shelves : r.shelves.used ≤ after.rows.shelves.used
  pub more_items : r.items.used ≤ after.rows.items.used
  pub shelves_past : Past shelves after.rows.shelves.used st.shelves (take_item st p).shelves
  pub items_past : Past items after.rows.items.used st.items (take_item st p).items

module _ (st : State) (a : Atlas) (shelf_at : Focus Shelf) (item_at_of : Focus Item) (below : List Shelf) (r : Rows) (asked : Asked)
    (items_are : shelf_at.this.items ≡ back_onto item_at_of.before (item_at_of.this ∷ item_at_of.after))
    (stands : Stands st (before_grant a shelf_at below r)) (all : Each AllListed (back_onto shelf_at.before (shelf_at.this ∷ below)))
    (left : splits_item asked item_at_of.this ≡ true → 0 < rows_left_of (rows items st.items) r.items)
    (p : Plan) (planned : PlanFor st p shelf_at.this item_at_of.this) (split : p.item_split ≡ splits_item asked item_at_of.this) where
  abbrev s : Shelf
  s = shelf_at.this

  abbrev i : Item
  i = item_at_of.this

  abbrev before : Atlas
  before = before_grant a shelf_at below r

  shelf_used : p.shelf.0 < r.shelves.used
  shelf_used =
      rw planned.at_shelf (stands.sound.shelf_rows.serving_used s.row (in_onto (λ (q : Shelf). q.row ∷ []) s.row shelf_at.before (s ∷ below) (inr (List·Memᴰ·head refl))))

  item_used : i.row < r.items.used
  item_used =
      let mine : i.row ∈ item_rows_of s.items = rw items_are (in_onto (λ (q : Item). q.row ∷ []) i.row item_at_of.before (i ∷ item_at_of.after) (inr (List·Memᴰ·head refl))) in
      stands.sound.item_rows.serving_used i.row (in_onto (λ (q : Shelf). item_rows_of q.items) i.row shelf_at.before (s ∷ below) (inr (Memᴰ·append-left (all_item_rows below) mine)))

  planned_used : p.item.0 < r.items.used
  planned_used = rw planned.at_item item_used

  -- the used item rows link among themselves, so an edit that follows links stays within them
  links : LinksWithin r.items.used st.items st.items
  links = links-within st before stands all (omega (arith, item_used))

  row_linked : Linked r.items.used p.item_row
  row_linked = rw planned.as_read (links.linked i.row item_used)

  -- ---- the whole item

  whole : splits_item asked i ≡ false → Placement a asked shelf_at item_at_of below r st p
  unfolding grant_item take_whole
  whole e =
      let step : take_item st p ≡ take_whole st p = takes_whole st p (split ∙ e) in
      record {
        after = record { limits = a.limits; shelves = back_onto shelf_at.before (grant_whole s item_at_of ∷ below); rows = r };
        is = rw e;
        more_shelves = omega arith;
        more_items = omega arith;
        shelves_past = rw step (use_past r.shelves.used st.shelves p _ shelf_used);
        items_past = rw step (whole_past r.items.used st.items p links (inl planned_used) row_linked);
      }

  -- ---- a part of it, with a row for the rest

  new_row_of : splits_item asked i ≡ true → new_item st.header ≡ at_row (new_row freed_row r.items)
  unfolding header_of
  new_row_of e =
      item_new st.items st.header (all_item_rows before.shelves) r.items (ap (λ (q : Header). q.free_items.0) stands.stored.header) (ap (λ (q : Header). q.used_items) stands.stored.header)
      (used_items_lem st before stands) (left e) stands.sound.item_rows stands.stored.freed_items_lem

  part_items : splits_item asked i ≡ true → Past items (taken r.items).used st.items (take_part st p).items
  unfolding take_part
  part_items e =
      let new : TakenRow freed_row r.items = taken_row freed_row r.items (all_item_rows before.shelves) stands.sound.item_rows in
      let unserved : Fresh freed_row (rows items st.items) (all_item_rows before.shelves) r.items = fresh freed_row _ _ r.items (used_items_lem st before stands) (left e) stands.sound.item_rows in
      part_past r.items.used (taken r.items).used st.items st.header p links planned_used row_linked
      new.more unserved.in_room (rw (new_row_of e) new.there) (rw (new_row_of e) new.cover)

  part : splits_item asked i ≡ true → Placement a asked shelf_at item_at_of below r st p
  unfolding grant_item item_taken take_part
  part e =
      let step : take_item st p ≡ take_part st p = takes_part st p (split ∙ e) in
      record {
        after = record { limits = a.limits; shelves = back_onto shelf_at.before (grant_part r s item_at_of asked.width ∷ below); rows = item_taken r };
        is = rw e;
        more_shelves = omega arith;
        more_items = (taken_row freed_row r.items (all_item_rows before.shelves) stands.sound.item_rows).more;
        shelves_past = rw step (use_past r.shelves.used st.shelves p _ shelf_used);
        items_past = rw step (part_items e);
      }

  pub placement : Placement a asked shelf_at item_at_of below r st p
  placement = go (splits_item asked i) refl where
    go : (b : Bool) → splits_item asked i ≡ b → Placement a asked shelf_at item_at_of below r st p
    go true e = part e
    go false e = whole e
