-- A release as a whole, in two steps: the item is made free and merged with its neighbours on its shelf, then the shelf, where that left it empty, with
-- the empty shelves around it. Header and tables in which the atlas is stored have what that asks (`releasable`), and what both steps leave there is the
-- atlas that the rules make. Assumes nothing.
use Rattle.std.specs.Prelude.{◌≤◌, ◌<◌, ◌≡◌, ◌∷◌}
use Rattle.numbers.specs.Library.{ℕ, refl, sym, ap, ◌∙◌, subst, inr, true, some, List, [], List·Memᴰ·head, Memᴰ·append-left, arith}
use Rattle.numbers.specs.declared.{index.ItemIndex.ItemIndex, index.ShelfIndex.ShelfIndex}
use Rattle.chains.specs.Prelude.{◌∈◌, back_onto, first_row}
use Rattle.chains.proofs.Prelude.{in_onto, each_split, self}
use Rattle.rows.specs.Prelude.{get, items, shelves, Past, Below, LinksWithin}
use Rattle.rows.specs.declared.{header.Header.Header, shelf.ShelfRow.ShelfRow}
use Rattle.rules.specs.Prelude.{Item, Shelf, Atlas, holding, Loose, Stack, Found, merge_next, merge_into, merge_below, merge_above, release_found, item, free, shelf, Stores}
use Rattle.rules.specs.Prelude.{header_of, room_in, item_rows_of, all_item_rows, AllListed, FreeListed, Shaped, WellFormed, Becomes}
use Rattle.rules.proofs.LiveRows.{free_row}
use Rattle.laws.proofs.Shape.Finding.{FoundAt}
use Rattle.laws.proofs.Shape.Columns.{Placed, stacked_placed}
use Rattle.laws.proofs.Shape.ReleaseShaped.{release_shape}
use Rattle.rows.specs.State.{State, state}
use Rattle.live_rows.specs.Live.{at_row}
use Rattle.merge.specs.Releasable.{Releasable}
use Rattle.merge.specs.Merge.{merge_below as mergeBelowAt, merge_above as mergeAboveAt, release_item, release_at}
use Rattle.bridge.proofs.Search.LookUp.{found_used}
use Rattle.bridge.proofs.Items.NoWrap.{shaped_narrow, shelf_narrow, NarrowShelf}
use Rattle.bridge.proofs.Stands.{Stands, on_row, used_shelves_lem, shelf_says}
use Rattle.bridge.proofs.Items.WholeOrPart.{names_shelf}
use Rattle.bridge.proofs.Items.MergesKeep.{items_of}
use Rattle.bridge.proofs.Items.ReleaseItem.{release_stands}
use Rattle.bridge.proofs.LeadsTo.{Leads, leads_then}
use Rattle.bridge.proofs.Shelves.MergeNeighbours.{merge_both}
use Rattle.bridge.proofs.Outcome.{becomes}
use Rattle.bridge.proofs.UsedLinks.{first_below, links-within, head_below}
use Rattle.bridge.proofs.ReleaseWrites.{released_items, released_shelves}
use Rattle.bridge.proofs.MergeBounds.{SameUse, loose_use, stack_use, low_below, low_above}

-- the step, by the row of the item's shelf
release_step : (st : State) (on row : ℕ) → (get items st.items row).shelf ≡ on_row on
    → release_at st (at_row row) ≡ mergeAboveAt (mergeBelowAt (release_item st (on_row on) (at_row row)) (on_row on)) (on_row on)
unfolding release_at
release_step st on row e = ap (λ (at : ShelfIndex). mergeAboveAt (mergeBelowAt (release_item st at (at_row row)) at) at) e

module _ (h : Header) (S I : List ℕ) (a : Atlas) (stored : Stores h S I a) (formed : WellFormed (room_in S I) a) (row : ℕ) (spot : Found)
    (found : FoundAt row a.shelves a.shelves (some spot)) (was_live : spot.item.this.live ≡ true) where
  abbrev st : State
  st = state h S I

  abbrev s : Shelf
  s = spot.shelf.this

  abbrev i : Item
  i = spot.item.this

  -- the item and its shelf are where they were found
  shelves_are : a.shelves ≡ back_onto spot.shelf.before (s ∷ spot.shelf.after)
  shelves_are = found.0

  items_are : s.items ≡ back_onto spot.item.before (i ∷ spot.item.after)
  items_are = found.1

  stands : Stands st a
  stands = record { stored = stored; sound = formed.sound }

  -- ---- the item is in use, and so is its shelf

  item_used : i.row < a.rows.items.used
  item_used = found_used h S I a stored formed spot i.row (shelves_are, items_are, refl)

  shelf_used : s.row < a.rows.shelves.used
  shelf_used =
      formed.sound.shelf_rows.serving_used s.row
      (rw shelves_are (in_onto (λ (q : Shelf). q.row ∷ []) s.row spot.shelf.before (s ∷ spot.shelf.after) (inr (List·Memᴰ·head refl))))

  listed : FreeListed s
  listed = (each_split FreeListed spot.shelf.before (s ∷ spot.shelf.after) (rw shelves_are at formed.sound.free_listed)).1.0

  all : AllListed s
  all = (each_split AllListed spot.shelf.before (s ∷ spot.shelf.after) (rw shelves_are at formed.shaped.all_listed)).1.0

  narrow_here : NarrowShelf s
  narrow_here = shelf_narrow a formed.shaped spot.shelf.before s spot.shelf.after shelves_are

  -- ---- so a release may be made: the rows that it reaches are used ones

  used_is : a.rows.items.used ≡ h.used_items
  unfolding header_of
  used_is = sym (ap (λ (q : Header). q.used_items) stored.header)

  -- a shelf's own item rows
  own_used : (r : ℕ) → r ∈ item_rows_of s.items → r < h.used_items
  own_used r mem =
      omega (
        arith,
        used_is,
        formed.sound.item_rows.serving_used r
            (rw shelves_are (in_onto (λ (q : Shelf). item_rows_of q.items) r spot.shelf.before (s ∷ spot.shelf.after) (inr (Memᴰ·append-left (all_item_rows spot.shelf.after) mem)))),
      )

  -- a link that the shelf's row says, by what it is there
  shelf_link : (link : ShelfRow → ItemIndex) → Below h.used_items (link (shelf.says (first_row shelf.row spot.shelf.before) s (first_row shelf.row spot.shelf.after))).0
      → Below h.used_items (link (get shelves S s.row)).0
  shelf_link link = subst (λ (v : ShelfRow). Below h.used_items (link v).0) (sym (shelf_says st a stands spot.shelf.before s spot.shelf.after shelves_are))

  on_its_shelf : (get items I i.row).shelf ≡ on_row s.row
  on_its_shelf = names_shelf st a spot.shelf spot.item shelves_are items_are stands

  may_release : Releasable h S I (at_row i.row)
  unfolding header_of
  may_release = record {
    links = subst (λ (n : ℕ). LinksWithin n I I) used_is (links-within st a stands formed.shaped.all_listed (omega (arith, item_used)));
    freed =
        subst (λ (n : ℕ). Below n h.free_items.0) used_is
        (subst (Below a.rows.items.used) (sym (ap (λ (q : Header). q.free_items.0) stored.header)) (head_below st a stands formed.shaped.all_listed));
    used = omega (arith, used_is, item_used);
    on_shelf = rw on_its_shelf (omega (arith, shelf_used, used_shelves_lem st a stands));
    first_free =
        rw on_its_shelf
        (shelf_link (λ (v : ShelfRow). v.first_unallocated) (first_below free h.used_items s.free (λ r mem. own_used r (free_row s.items r (listed.only r (rw self at mem))))));
    first_item = rw on_its_shelf (shelf_link (λ (v : ShelfRow). v.first_item) (first_below (item s.row) h.used_items s.items own_used));
  }

  pub releasable : Releasable h S I (at_row row)
  releasable = subst (λ (r : ℕ). Releasable h S I (at_row r)) found.2 may_release

  -- ---- the first step: the item loosened

  -- its shelf's items once it is merged with its free neighbours, the shelves around them, and the atlas and the state of both
  abbrev loose : Loose
  loose = merge_into (merge_next (record { items = spot.item; free = s.free; rows = a.rows }))

  abbrev stack : Stack
  stack = record { shelves = record { before = spot.shelf.before; this = holding s (items_of loose) loose.free; after = spot.shelf.after }; rows = loose.rows }

  abbrev loosened_atlas : Atlas
  loosened_atlas = record { limits = a.limits; shelves = back_onto spot.shelf.before (holding s (items_of loose) loose.free ∷ spot.shelf.after); rows = loose.rows }

  abbrev loosened_state : State
  loosened_state = release_item st (on_row s.row) (at_row i.row)

  as_used : SameUse a.rows loose.rows
  as_used = loose_use (record { items = spot.item; free = s.free; rows = a.rows })

  loosened : Leads st loosened_state loosened_atlas
  loosened = record {
    stands = release_stands st a spot shelves_are items_are was_live all stands narrow_here (shaped_narrow a formed.shaped).total;
    shelves_past = released_shelves st (on_row s.row) (at_row i.row) loose.rows.shelves.used (omega (arith, as_used.shelves, shelf_used));
    items_past =
        subst (λ (n : ℕ). Past items n I loosened_state.items) (sym used_is ∙ sym as_used.items)
        (released_items st (on_row s.row) (at_row i.row) may_release (sym on_its_shelf));
  }

  -- ---- the second step: the shelves merged

  abbrev merged_stack : Stack
  merged_stack = merge_above (merge_below stack)

  abbrev released_atlas : Atlas
  released_atlas = record { limits = a.limits; shelves = back_onto merged_stack.shelves.before (merged_stack.shelves.this ∷ merged_stack.shelves.after); rows = merged_stack.rows }

  is_release : release_found a spot ≡ released_atlas
  unfolding release_found
  is_release = refl

  shaped : Shaped released_atlas
  shaped = rw is_release at (release_shape _ a formed row spot found)

  -- an atlas in shape has no shelf deeper than itself
  fits : merged_stack.shelves.this.depth ≤ 65535
  fits =
      omega (
        arith,
        shaped.limits.sizes.h_most,
        (each_split (Placed a.limits) merged_stack.shelves.before (merged_stack.shelves.this ∷ merged_stack.shelves.after) (stacked_placed a.limits 0 0 released_atlas.shelves shaped.stacked)).1.0,
      )

  merged : Leads loosened_state (mergeAboveAt (mergeBelowAt loosened_state (on_row s.row)) (on_row s.row)) released_atlas
  unfolding holding
  merged = merge_both loosened_state a.limits stack (low_below stack fits) (low_above stack fits) loosened.stands

  leads : Leads st (release_at st (at_row i.row)) released_atlas
  leads =
      rw (release_step st s.row i.row on_its_shelf)
      (leads_then (omega (arith, (stack_use stack).shelves)) (omega (arith, (stack_use stack).items)) loosened merged)

  pub release_becomes : Becomes S I (release_at st (at_row row)).header (release_at st (at_row row)).shelves (release_at st (at_row row)).items (release_found a spot)
  release_becomes =
      subst (λ (r : ℕ). Becomes S I (release_at st (at_row r)).header (release_at st (at_row r)).shelves (release_at st (at_row r)).items (release_found a spot)) found.2
      (rw is_release (becomes h S I (release_at st (at_row i.row)) released_atlas leads shaped))
