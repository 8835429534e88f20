-- The first half of a release: a live item is made free and merged with its free neighbours, and its shelf's row and the header follow. The atlas that
-- stands then is the rules' atlas at that point. Assumes nothing.
use Rattle.std.specs.Prelude.{◌<◌, ◌≤◌, ◌+◌, ◌-◌, ◌*◌, ◌≡◌, ◌&&◌, ◌∷◌, ◌++◌}
use Rattle.numbers.specs.Library.{ℕ, refl, sym, ap, ◌∙◌, subst, inr, Bool, true, false, not, List, []}
use Rattle.numbers.specs.Library.{List·Memᴰ·head, and-false, arith, eqb, ne_eqb}
use Rattle.numbers.specs.Prelude.{pick, no_row, most_area}
use Rattle.numbers.specs.declared.index.ItemIndex.{ItemIndex}
use Rattle.chains.specs.Prelude.{back_onto, first_row, first_of}
use Rattle.chains.proofs.Prelude.{in_onto}
use Rattle.rows.specs.Prelude.{get, get_none, change, items, shelves, with_used_items, with_free_items, with_occupied}
use Rattle.rows.specs.declared.{header.Header.Header, shelf.ShelfRow.ShelfRow}
use Rattle.rules.specs.Prelude.{Item, Shelf, Freed, Pool, Atlas, is_empty_of, live_area, occupied, holding, Loose, Found, merge_next, merge_into, shelf, item, flag}
use Rattle.rules.specs.Prelude.{header_of, all_item_rows, AllListed}
use Rattle.wrap.specs.Wrap.{minus32_is}
use Rattle.rows.specs.State.{State}
use Rattle.live_rows.specs.Live.{at_row, area_at}
use Rattle.item_edits.specs.ItemEdits.{mark_free, unlist, enlist, join_next, first_after}
use Rattle.shelf_edits.specs.ShelfEdits.{with_free}
use Rattle.merge_items.specs.MergeItems.{Loose as Loosened, is_free_item, absorb_next, merge_next as nextMerged, merge_into as intoMerged, loosen, one_free_of}
use Rattle.merge.specs.Merge.{with_area_removed as vacate, loosened, release_item}
use Rattle.bridge.proofs.Items.RowViews.{seen_next, seen_allocated, seen_width, seen-shelf}
use Rattle.rules.proofs.LiveRows.{live_free}
use Rattle.bridge.proofs.Items.SumsAndFreeLists.{area_onto, occupied_onto}
use Rattle.bridge.proofs.Stands.{Stands, on_row, shelf_says}
use Rattle.bridge.proofs.Items.NoWrap.{widths, NarrowShelf}
use Rattle.bridge.proofs.Items.PoolRows.{with_pool}
use Rattle.bridge.proofs.Items.OpenShelf.{Open, once, some}
use Rattle.bridge.proofs.Items.MarkItem.{live_of, at_in, body_is}
use Rattle.bridge.proofs.Items.CloseShelf.{reshelved, open_shelf, close_stands, close_header}
use Rattle.bridge.proofs.Items.MergeItems.{Loosely, marked, next_merged, into_merged}
use Rattle.bridge.proofs.Items.MergesKeep.{items_of, Steady, Between, next_between, next_steady, into_steady}

-- the area of an item of an opened shelf, as the code reads it
area_is : {I₀ I : List ℕ} {on : ℕ} {fl : List ℕ} {p : Pool Freed} {others : List ℕ} (ib : List Item) (i : Item) (ia : List Item)
    → Open I₀ I on (back_onto ib (i ∷ ia)) fl p others → (S : List ℕ) (d : ℕ) → (get shelves S on).height ≡ d → area_at S I (at_row i.row) ≡ i.width * d
unfolding area_at
area_is {I = I} ib i ia o S d e = rw (seen_width (get items I i.row) (body_is ib i ia o), seen-shelf (get items I i.row) (body_is ib i ia o), e)

-- what the code's flag is read from: one item is left, and it is free
one_free : {I₀ I : List ℕ} {on : ℕ} {fl : List ℕ} {p : Pool Freed} {others : List ℕ} (is : List Item) → Open I₀ I on is fl p others
    → one_free_of I (at_row (first_row (item on).row is)) ≡ is_empty_of is
unfolding one_free_of is_empty_of items
one_free {I = I} [] o = rw (← get_none items I no_row refl)
one_free {I = I} (i ∷ []) o =
    rw (seen_allocated (get items I i.row) (body_is [] i [] o), seen_next (get items I i.row) (body_is [] i [] o)) (go i.live)
  where
    go : (b : Bool) → (eqb (flag b) 0 && true) ≡ not b
    go true = refl
    go false = refl
one_free {I = I} (i ∷ j ∷ is) o =
    rw (seen_next (get items I i.row) (body_is [] i (j ∷ is) o), ne_eqb j.row no_row (some o j.row (at_in (i ∷ []) j is o))) (and-false _)

loosen_step : (c : Loosened) (row : ℕ) → loosen c (at_row row) ≡ intoMerged (nextMerged (marked c row) (at_row row)) (at_row row)
unfolding loosen intoMerged nextMerged is_free_item absorb_next unlist join_next enlist first_after mark_free
loosen_step c row = refl

loosened_step : (st : State) (on row : ℕ)
    → loosened st (on_row on) (at_row row) ≡ loosen (record { items = st.items; header = vacate st.header (area_at st.shelves st.items (at_row row)); first = (get shelves st.shelves on).first_unallocated }) (at_row row)
unfolding loosened loosen vacate area_at intoMerged nextMerged is_free_item absorb_next unlist join_next enlist first_after mark_free
loosened_step st on row = refl

release_step : (st : State) (on row : ℕ) → release_item st (on_row on) (at_row row) ≡ record {
  header = (loosened st (on_row on) (at_row row)).header;
  shelves = change shelves st.shelves on
      (with_free (loosened st (on_row on) (at_row row)).first (flag (one_free_of (loosened st (on_row on) (at_row row)).items (get shelves st.shelves on).first_item)));
  items = (loosened st (on_row on) (at_row row)).items;
}
unfolding release_item loosened one_free_of with_free loosen vacate area_at intoMerged nextMerged is_free_item absorb_next unlist join_next enlist first_after mark_free
release_step st on row = refl

module _ (st : State) (a : Atlas) (spot : Found)
    (shelves_are : a.shelves ≡ back_onto spot.shelf.before (spot.shelf.this ∷ spot.shelf.after))
    (items_are : spot.shelf.this.items ≡ back_onto spot.item.before (spot.item.this ∷ spot.item.after))
    (was_live : spot.item.this.live ≡ true) (all : AllListed spot.shelf.this)
    (stands : Stands st a) (narrow : NarrowShelf spot.shelf.this) (total : occupied a.shelves ≤ most_area) where
  abbrev h : Header
  h = st.header

  abbrev S : List ℕ
  S = st.shelves

  abbrev I : List ℕ
  I = st.items

  abbrev bs : List Shelf
  bs = spot.shelf.before

  abbrev s : Shelf
  s = spot.shelf.this

  abbrev ys : List Shelf
  ys = spot.shelf.after

  abbrev i : Item
  i = spot.item.this

  abbrev others : List ℕ
  others = all_item_rows bs ++ all_item_rows ys

  -- The way through the rules (`with_next`, `loose`) and the way through the steps (`at_first`, `next_done`, `loosened_now`): first a free next item is
  -- merged in, then the item is merged into a free previous one.
  abbrev with_next : Loose
  with_next = merge_next (record { items = spot.item; free = s.free; rows = a.rows })

  abbrev pub loose : Loose
  loose = merge_into with_next

  abbrev header_vacated : Header
  header_vacated = with_occupied (h.occupied - i.width * s.depth) h

  abbrev at_first : Loosened
  at_first = record { items = I; header = header_vacated; first = (get shelves S s.row).first_unallocated }

  abbrev next_done : Loosened
  next_done = nextMerged (marked at_first i.row) (at_row i.row)

  abbrev loosened_now : Loosened
  loosened_now = intoMerged next_done (at_row i.row)

  opened : Open I I s.row (back_onto spot.item.before (i ∷ spot.item.after)) s.free a.rows.items others
  opened = rw items_are at (open_shelf st a bs s ys shelves_are stands)

  says : get shelves S s.row ≡ shelf.says (first_row shelf.row bs) s (first_row shelf.row ys)
  says = shelf_says st a stands bs s ys shelves_are

  -- between the two merges the item is free, in its row, and on no list
  between : Between i.row with_next
  between =
      next_between spot.item.before i spot.item.after s.free a.rows
      (λ m. live_free (back_onto spot.item.before (i ∷ spot.item.after)) (once opened) i.row
      (in_onto live_of i.row spot.item.before (i ∷ spot.item.after) (inr (rw was_live (List·Memᴰ·head refl)))) (opened.only i.row m))

  -- the item's area is part of the live area
  sum : (d : ℕ) → live_area d s.items ≡ live_area d s.items - i.width * d + i.width * d
  unfolding live_area
  sum d = omega (arith, ap (live_area d) items_are, area_onto d spot.item.before (i ∷ spot.item.after), ap (λ (b : Bool). pick b (i.width * d) 0) was_live)

  steady_next : Steady (first_row (item 0).row s.items) (widths s.items) (λ d. live_area d s.items - i.width * d) a.rows.shelves with_next
  steady_next =
      next_steady (first_row (item 0).row s.items) (widths s.items) a.rows.shelves (λ d. live_area d s.items) (λ d. live_area d s.items - i.width * d)
      spot.item.before i spot.item.after s.free a.rows was_live sum
      (record { first_item = rw items_are; live_area_lem = λ d. rw items_are; as_wide = rw items_are; same_shelves = refl })

  steady : Steady (first_row (item 0).row s.items) (widths s.items) (λ d. live_area d s.items - i.width * d) a.rows.shelves loose
  steady =
      into_steady (first_row (item 0).row s.items) (widths s.items) a.rows.shelves (λ d. live_area d s.items - i.width * d)
      with_next.items.before with_next.items.this with_next.items.after with_next.free with_next.rows between.is_free steady_next

  same_pool : header_vacated ≡ with_pool a.rows.items header_vacated
  unfolding header_of with_occupied with_used_items with_free_items
  same_pool = cc stands.stored.header

  -- both merges in turn: after each, tables and rules agree on the shelf that is open
  loosely : Loosely I header_vacated s.row others loose loosened_now
  loosely =
      let wide : widths (back_onto spot.item.before (i ∷ spot.item.after)) ≤ 65535 = rw items_are at narrow.width in
      let after_next : Loosely I header_vacated s.row others with_next next_done =
      next_merged I header_vacated s.row others spot.item.before i s.free a.rows at_first was_live spot.item.after (λ x m. all x (rw items_are m)) wide
      (record { open_at = opened; header = same_pool; first = ap (λ (v : ShelfRow). v.first_unallocated) says }) in
      subst (λ (q : ℕ). Loosely I header_vacated s.row others loose (intoMerged next_done (at_row q))) between.same_row
      (into_merged I header_vacated s.row others with_next.items.this with_next.items.after with_next.free with_next.rows next_done between.is_free (rw between.same_row between.unlisted) with_next.items.before
      (rw steady_next.as_wide narrow.width) after_next)

  -- ---- so much less is occupied

  was_occupied : h.occupied ≡ occupied bs + (live_area s.depth s.items + occupied ys)
  unfolding header_of occupied
  was_occupied = ap (λ (q : Header). q.occupied) stands.stored.header ∙ ap occupied shelves_are ∙ occupied_onto bs (s ∷ ys)

  less : h.occupied - i.width * s.depth ≡ occupied (back_onto bs (holding s (items_of loose) loose.free ∷ ys))
  unfolding occupied holding
  less = omega (arith, was_occupied, occupied_onto bs (holding s (items_of loose) loose.free ∷ ys), steady.live_area_lem s.depth, sum s.depth)

  vacated : vacate st.header (area_at st.shelves st.items (at_row i.row)) ≡ header_vacated
  unfolding vacate area_at header_of
  vacated =
      let fits : i.width * s.depth ≤ h.occupied = omega (arith, was_occupied, sum s.depth) in
      let small : h.occupied < 4294967296 = omega (arith, total, ap (λ (q : Header). q.occupied) stands.stored.header) in
      rw (area_is spot.item.before i spot.item.after opened S s.depth (ap (λ (v : ShelfRow). v.height) says), minus32_is h.occupied (i.width * s.depth) fits small)

  loosened_is : loosened st (on_row s.row) (at_row i.row) ≡ loosened_now
  loosened_is =
      loosened_step st s.row i.row
      ∙ ap (λ (k : Header). loosen (record { items = I; header = k; first = (get shelves S s.row).first_unallocated }) (at_row i.row)) vacated
      ∙ loosen_step at_first i.row

  -- ---- the shelf closed

  emptied : flag (one_free_of loosened_now.items (get shelves S s.row).first_item) ≡ flag (is_empty_of (items_of loose))
  emptied =
      let q : (get shelves S s.row).first_item ≡ at_row (first_row (item s.row).row (items_of loose)) =
      ap (λ (v : ShelfRow). v.first_item) says ∙ ap at_row (sym steady.first_item) in
      rw (q, one_free (items_of loose) loosely.open_at)

  header_is : loosened_now.header ≡ header_of (reshelved a bs (holding s (items_of loose) loose.free) ys loose.rows.items)
  unfolding with_occupied with_used_items with_free_items
  header_is = loosely.header ∙ close_header st a bs s ys shelves_are stands (holding s (items_of loose) loose.free) loose.rows.items (h.occupied - i.width * s.depth) less

  -- the atlas with the item loosened
  abbrev pub loosened_atlas : Atlas
  loosened_atlas = record { limits = a.limits; shelves = back_onto bs (holding s (items_of loose) loose.free ∷ ys); rows = loose.rows }

  rows_are : reshelved a bs (holding s (items_of loose) loose.free) ys loose.rows.items ≡ loosened_atlas
  rows_are = ap (λ (p : Pool ℕ). record { limits = a.limits; shelves = back_onto bs (holding s (items_of loose) loose.free ∷ ys); rows = record { shelves = p; items = loose.rows.items } }) (sym steady.same_shelves)

  pub release_stands : Stands (release_item st (on_row s.row) (at_row i.row)) loosened_atlas
  release_stands =
      let f : loosened_now.first.0 ≡ first_of loose.free = ap (λ (k : ItemIndex). k.0) loosely.first in
      rw (release_step st s.row i.row, loosened_is, ← rows_are)
      (close_stands st a bs s ys shelves_are stands loosened_now.items (items_of loose) loose.free loose.rows.items loosely.open_at steady.first_item loosened_now.first _ f emptied loosened_now.header header_is)
