-- The step grants an item whole or splits it as the rules do, so what stands after it is the rules' atlas in either case; and an item's row names the
-- shelf that it stands on. Assumes nothing.
use Rattle.std.specs.Prelude.{◌<◌, ◌≤◌, ◌≡◌, ◌∷◌, ◌++◌}
use Rattle.numbers.specs.Library.{ℕ, refl, ap, ◌∙◌, Bool, true, false, List}
use Rattle.numbers.specs.Prelude.{pick, most_area}
use Rattle.numbers.specs.declared.request.Asked.{Asked}
use Rattle.chains.specs.Prelude.{Focus, back_onto, first_row, first_of}
use Rattle.rows.specs.Prelude.{get, items, body_of, links_of}
use Rattle.rows.specs.declared.live.Live.{Live}
use Rattle.rules.specs.Prelude.{Item, Shelf, Rows, Atlas, occupied, standing, rows_left_of, splits_item, item_taken, granted_item, grant_whole, grant_part, live_of}
use Rattle.rules.specs.Prelude.{grants, grant_item, item, room_in, all_item_rows}
use Rattle.rows.specs.State.{State}
use Rattle.plan.specs.declared.Plan.{Plan}
use Rattle.grant.specs.Grant.{take_item, takes_part, takes_whole}
use Rattle.bridge.proofs.Items.RowViews.{seen-shelf}
use Rattle.bridge.proofs.Stands.{Stands, on_row}
use Rattle.bridge.proofs.Items.NoWrap.{NarrowShelf}
use Rattle.bridge.proofs.Items.OpenShelf.{Open, links_are}
use Rattle.bridge.proofs.Items.MarkItem.{body_is}
use Rattle.bridge.proofs.Items.CloseShelf.{open_shelf}
use Rattle.bridge.proofs.Items.GrantItem.{occupy, PlanFor, whole_stands, part_stands}

-- an item of a shelf where it stands
module _ (st : State) (a : Atlas) (shelf_at : Focus Shelf) (item_at_of : Focus Item)
    (shelves_are : a.shelves ≡ back_onto shelf_at.before (shelf_at.this ∷ shelf_at.after))
    (items_are : shelf_at.this.items ≡ back_onto item_at_of.before (item_at_of.this ∷ item_at_of.after)) (stands : Stands st a) where
  opened : Open st.items st.items shelf_at.this.row (back_onto item_at_of.before (item_at_of.this ∷ item_at_of.after)) shelf_at.this.free a.rows.items (all_item_rows shelf_at.before ++ all_item_rows shelf_at.after)
  opened = rw items_are at (open_shelf st a shelf_at.before shelf_at.this shelf_at.after shelves_are stands)

  -- its row names the shelf
  pub names_shelf : (get items st.items item_at_of.this.row).shelf ≡ on_row shelf_at.this.row
  names_shelf = seen-shelf (get items st.items item_at_of.this.row) (body_is item_at_of.before item_at_of.this item_at_of.after opened)

  -- what its row says: all but its free links, and these where it stands in the free list
  pub item_body : body_of (get items st.items item_at_of.this.row) ≡ (item shelf_at.this.row).says (first_row (item 0).row item_at_of.before) item_at_of.this (first_row (item 0).row item_at_of.after)
  item_body = body_is item_at_of.before item_at_of.this item_at_of.after opened

  pub item_links : (fb fa : List ℕ) → shelf_at.this.free ≡ back_onto fb (item_at_of.this.row ∷ fa) → links_of (get items st.items item_at_of.this.row) ≡ record { prev = first_of fb; next = first_of fa }
  item_links fb fa free_are = links_are fb item_at_of.this.row fa (rw free_are at opened)

-- `below` is what follows the shelf in the chain: with a shelf split, the new shelf first
pub place_stands : (st : State) (a : Atlas) (shelf_at : Focus Shelf) (item_at_of : Focus Item) (below : List Shelf) (r : Rows) (asked : Asked)
    → shelf_at.this.items ≡ back_onto item_at_of.before (item_at_of.this ∷ item_at_of.after)
    → (fb fa : List ℕ) → shelf_at.this.free ≡ back_onto fb (item_at_of.this.row ∷ fa)
    → Stands st (record { limits = a.limits; shelves = back_onto shelf_at.before (shelf_at.this ∷ below); rows = r })
    → NarrowShelf shelf_at.this → occupied (back_onto shelf_at.before (shelf_at.this ∷ below)) ≤ most_area
    → asked.width ≤ item_at_of.this.width → (splits_item asked item_at_of.this ≡ true → 0 < rows_left_of (room_in st.shelves st.items).items r.items)
    → (p : Plan) → PlanFor st p shelf_at.this item_at_of.this → p.item_split ≡ splits_item asked item_at_of.this
    → p.width ≡ pick (splits_item asked item_at_of.this) asked.width item_at_of.this.width
    → (live : Live) (a' : Atlas) → grant_item a asked shelf_at item_at_of below r ≡ grants live a'
    → Stands (occupy (take_item st p) p) a'
unfolding grant_item
place_stands st a shelf_at item_at_of below r asked items_are fb fa free_are stands narrow total wide left p planned split is-width live a' =
    go (splits_item asked item_at_of.this) (live_of a.limits shelf_at.this (granted_item item_at_of.this asked.width)) (live_of a.limits shelf_at.this (granted_item item_at_of.this item_at_of.this.width)) refl where
      before : Atlas
      before = record { limits = a.limits; shelves = back_onto shelf_at.before (shelf_at.this ∷ below); rows = r }

      before_at : Focus Shelf
      before_at = record { before = shelf_at.before; this = shelf_at.this; after = below }

      wide_as : (b : Bool) → splits_item asked item_at_of.this ≡ b → p.width ≡ pick b asked.width item_at_of.this.width
      wide_as b e = is-width ∙ ap (λ (c : Bool). pick c asked.width item_at_of.this.width) e

      go : (b : Bool) (part whole : Live) → splits_item asked item_at_of.this ≡ b
          → pick b
          (grants part (record { limits = a.limits; shelves = back_onto shelf_at.before (grant_part r shelf_at.this item_at_of asked.width ∷ below); rows = item_taken r }))
          (grants whole (record { limits = a.limits; shelves = back_onto shelf_at.before (grant_whole shelf_at.this item_at_of ∷ below); rows = r }))
          ≡ grants live a'
          → Stands (occupy (take_item st p) p) a'
      go true part whole e q =
          let eq : record { limits = a.limits; shelves = back_onto shelf_at.before (grant_part r shelf_at.this item_at_of asked.width ∷ below); rows = item_taken r } ≡ a' = ap (standing a') q in
          rw (takes_part st p (split ∙ e), ← eq) (part_stands st before before_at item_at_of refl items_are fb fa free_are stands narrow total p planned asked.width (wide_as true e) wide (left e))
      go false part whole e q =
          let eq : record { limits = a.limits; shelves = back_onto shelf_at.before (grant_whole shelf_at.this item_at_of ∷ below); rows = r } ≡ a' = ap (standing a') q in
          rw (takes_whole st p (split ∙ e), ← eq) (whole_stands st before before_at item_at_of refl items_are fb fa free_are stands narrow total p planned (wide_as false e))
