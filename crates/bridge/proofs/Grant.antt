-- A grant as a whole. From the plan at the place that the search holds, with rows enough left for it, the step leads to the atlas that the rules make,
-- and what the plan tells is the rules' answer. Assumes nothing.
use Rattle.std.specs.Prelude.{◌+◌, ◌-◌, ◌≤◌, ◌<◌, ◌≡◌, ◌∷◌}
use Rattle.numbers.specs.Library.{ℕ, refl, sym, ap, ◌∙◌, subst, inl, inr, Bool, true, false, List, [], List·Memᴰ·head, arith, ltb, length, ltb-false}
use native.Mathlib.Nat.{mul-le-mul_left}
use Rattle.std.proofs.lemmas.Bool.{or_parts}
use Rattle.numbers.specs.declared.request.Asked.{Asked}
use Rattle.numbers.specs.Prelude.{pick, Placeable, most_area}
use Rattle.numbers.specs.declared.{index.ItemIndex.ItemIndex, limits.Limits.Limits}
use Rattle.chains.specs.Prelude.{◌∈◌, Each, Focus, back_onto, first_row, first_of}
use Rattle.chains.proofs.Prelude.{each_split, each_join, in_onto}
use Rattle.rows.specs.Prelude.{rows, get, rows_long, items, shelves, Body, body_of, same_row, linked_there, with_width, with_height, with_used_items, with_used_shelves, with_free_items, with_free_shelves}
use Rattle.pool.specs.Pool.{item_taken as itemTakenAt, shelf_taken as shelfTakenAt}
use Rattle.rows.specs.declared.{header.Header.Header, item.ItemRow.ItemRow, live.Live.Live, shelf.ShelfRow.ShelfRow}
use Rattle.rules.specs.Prelude.{Item, Shelf, Pool, Rows, Atlas, Room, occupied, taken, rows_left_of, too_few_rows, splits_shelf, splits_item, upper_part, lower_part}
use Rattle.rules.specs.Prelude.{shelf_taken, item_taken, item, granted_item, live_of, grants, grant_item, grant_in_shelf, grant, Stores, header_of, room_in, AllListed, shelf_rows_of, Shaped, WellFormed}
use Rattle.rules.specs.Prelude.{Becomes}
use Rattle.rules.specs.Grant.{count}
use Rattle.laws.proofs.Shape.Around.{pick_cases}
use Rattle.laws.proofs.Shape.Kept.{grant_shaped}
use Rattle.rows.specs.State.{State, state}
use Rattle.live_rows.specs.Live.{at_row, live_of_rows}
use Rattle.wrap.specs.Wrap.{plus16_is}
use Rattle.shelf_edits.specs.ShelfEdits.{split_shelf}
use Rattle.plan.specs.Plan.{told, plan_at, has_rows}
use Rattle.plan.specs.declared.Plan.{Plan}
use Rattle.grant.specs.Grant.{PlanThere, fit_shelf, fits_whole, take_item, grant_at}
use Rattle.search.specs.declared.Place.{Place}
use Rattle.bridge.proofs.Items.NoWrap.{shaped_narrow, shelf_narrow, item_narrow, widths, NarrowShelf}
use Rattle.bridge.proofs.Items.RowViews.{seen_width}
use Rattle.bridge.proofs.Stands.{Stands, on_row, used_items_lem, used_shelves_lem}
use Rattle.bridge.proofs.UsedLinks.{links-within}
use Rattle.bridge.proofs.Search.LookUp.{found_used}
use Rattle.bridge.proofs.Items.SumsAndFreeLists.{focus_of}
use Rattle.bridge.proofs.Items.GrantItem.{occupy, PlanFor}
use Rattle.bridge.proofs.Items.WholeOrPart.{item_body, item_links, place_stands}
use Rattle.bridge.proofs.LeadsTo.{Leads, leads_same, leads_then}
use Rattle.bridge.proofs.Shelves.FitShelf.{fit_split}
use Rattle.bridge.proofs.Outcome.{becomes}
use Rattle.bridge.proofs.PlaceOrRefusal.{PlaceHeld, shelf_row_says, item_row_says, splits_shelf_lem, splits_item_lem, rows_suffice}
use Rattle.bridge.proofs.GrantAtPlace.{before_grant, width_of, Placement, placement}

-- ---- the rows that the two splits need

pub enough : (room : Room) (r : Rows) (b c : Bool) → too_few_rows room r b c ≡ false → (count b ≤ rows_left_of room.shelves r.shelves) × (count b + count c ≤ rows_left_of room.items r.items)
unfolding too_few_rows
enough room r b c e =
    let (s, i) = or_parts (ltb (rows_left_of room.shelves r.shelves) (count b)) (ltb (rows_left_of room.items r.items) (count b + count c)) e in
    (ltb-false _ _ s, ltb-false _ _ i)

-- a row less is left once one is taken
left_after : {E : Type 0} (room : ℕ) (p : Pool E) → 2 ≤ rows_left_of room p → 0 < rows_left_of room (taken p)
unfolding rows_left_of taken
left_after {E} room p = go p.used p.freed where
  go : (used : ℕ) (freed : List E) → 2 ≤ (room - used) + length freed → 0 < rows_left_of room (taken (record { used = used; freed = freed }))
  go used [] b = omega arith
  go used (f ∷ freed) b = omega arith

-- a shelf's upper part is no wider and no deeper than it
upper_narrow : (s : Shelf) (d : ℕ) → d ≤ s.depth → NarrowShelf s → NarrowShelf (upper_part d s)
unfolding upper_part
upper_narrow s d b n = record { spans = n.spans; width = n.width; reach = omega (arith, n.reach); area = omega (arith, mul-le-mul_left (widths s.items) b, n.area) }

-- the split changes nothing of what is occupied
fit_occupied : (st : State) (p : Plan) → (fit_shelf st p).header.occupied ≡ st.header.occupied
unfolding fit_shelf split_shelf itemTakenAt shelfTakenAt with_used_items with_used_shelves with_free_items with_free_shelves
fit_occupied st p =
    pick_cases (λ (t : State). t.header.occupied ≡ st.header.occupied) p.shelf_split (split_shelf st p.shelf p.shelf_row p.depth) st (λ e. refl) (λ e. refl)

-- what the plan tells of an item granted, by the rows that it has read: nothing wraps
told_says : (h : Header) (l : Limits) (s : Shelf) (i : Item) (v : ShelfRow) (w : ItemRow) (width depth : ℕ) → h.limits ≡ l → v.y ≡ s.y → w.x ≡ i.x → w.generation ≡ i.generation
    → i.x + width < 65536 → s.y + depth < 65536 → told h v w i.row width depth ≡ live_of l (upper_part depth s) (granted_item i width)
unfolding told live_of_rows live_of upper_part granted_item with_width with_height
told_says h l s i v w width depth limits y x generation wide deep =
    rw (limits, y, x, generation, plus16_is i.x width wide, plus16_is s.y depth deep)

-- ---- the item granted in a state that the shelf's split, or nothing, led to: `mid`, where rows r are used and `below` follows the shelf

module _ (st mid : State) (a : Atlas) (shelf_at : Focus Shelf) (item_at_of : Focus Item) (below : List Shelf) (r : Rows) (q : Asked)
    (led : Leads st mid (before_grant a shelf_at below r)) (items_are : shelf_at.this.items ≡ back_onto item_at_of.before (item_at_of.this ∷ item_at_of.after)) (listed : item_at_of.this.row ∈ shelf_at.this.free)
    (all : Each AllListed (back_onto shelf_at.before (shelf_at.this ∷ below))) (narrow : NarrowShelf shelf_at.this) (total : occupied (back_onto shelf_at.before (shelf_at.this ∷ below)) ≤ most_area)
    (wide : q.width ≤ item_at_of.this.width) (left : splits_item q item_at_of.this ≡ true → 0 < rows_left_of (rows items mid.items) r.items)
    (p : Plan) (planned : PlanFor mid p shelf_at.this item_at_of.this) (split : p.item_split ≡ splits_item q item_at_of.this) (is-width : p.width ≡ width_of q item_at_of.this) where
  pub placed : Placement a q shelf_at item_at_of below r mid p
  placed = placement mid a shelf_at item_at_of below r q items_are led.stands all left p planned split

  pub grant_leads : Leads st (occupy (take_item mid p) p) placed.after
  unfolding room_in
  grant_leads =
      let (fb, fa, free_are) = focus_of [] shelf_at.this.free item_at_of.this.row listed in
      leads_then placed.more_shelves placed.more_items led (record {
        stands = place_stands mid a shelf_at item_at_of below r q items_are fb fa free_are led.stands narrow total wide left p planned split is-width _ placed.after placed.is;
        shelves_past = placed.shelves_past;
        items_past = placed.items_past;
      })

-- ---- the plan at the place that is held

module _ (h : Header) (S I : List ℕ) (a : Atlas) (stored : Stores h S I a) (formed : WellFormed (room_in S I) a) (q : Asked)
    (at : Place) (place : PlaceHeld h S I a stored formed q at) where
  abbrev st : State
  st = state h S I

  abbrev p : Plan
  p = plan_at h S I at q

  abbrev shelf_at : Focus Shelf
  shelf_at = place.shelf

  abbrev item_at_of : Focus Item
  item_at_of = place.item

  abbrev s : Shelf
  s = shelf_at.this

  abbrev i : Item
  i = item_at_of.this

  stands : Stands st a
  stands = record { stored = stored; sound = formed.sound }

  shelf_planned : p.shelf_split ≡ splits_shelf q s
  unfolding plan_at
  shelf_planned = ap (λ (x : Place). (plan_at h S I x q).shelf_split) place.is ∙ splits_shelf_lem h S I a stored formed q at place

  item_planned : p.item_split ≡ splits_item q i
  unfolding plan_at
  item_planned = ap (λ (x : Place). (plan_at h S I x q).item_split) place.is ∙ splits_item_lem h S I a stored formed q at place

  width_planned : p.width ≡ width_of q i
  unfolding plan_at
  width_planned =
      ap (λ (x : Place). (plan_at h S I x q).width) place.is
      ∙ rw (splits_item_lem h S I a stored formed q at place, seen_width (get items I i.row) (item_row_says h S I a stored formed q at place))

  depth_planned : p.depth ≡ pick (splits_shelf q s) q.depth s.depth
  unfolding plan_at
  depth_planned =
      ap (λ (x : Place). (plan_at h S I x q).depth) place.is
      ∙ rw (splits_shelf_lem h S I a stored formed q at place, ap (λ (v : ShelfRow). v.height) (shelf_row_says h S I a stored formed q at place))

  at_shelf : p.shelf ≡ on_row s.row
  unfolding plan_at
  at_shelf = ap (λ (x : Place). x.shelf) place.is

  at_item : p.item ≡ at_row i.row
  unfolding plan_at
  at_item = ap (λ (x : Place). x.item) place.is

  shelf_read : p.shelf_row ≡ get shelves S s.row
  unfolding plan_at
  shelf_read = ap (λ (x : Place). get shelves S x.shelf.0) place.is

  item_read : p.item_row ≡ get items I i.row
  unfolding plan_at
  item_read = ap (λ (x : Place). get items I x.item.0) place.is

  first_planned : p.shelf_row.first_unallocated ≡ at_row (first_of s.free)
  first_planned = ap (λ (v : ShelfRow). v.first_unallocated) (shelf_read ∙ shelf_row_says h S I a stored formed q at place)

  narrow_here : NarrowShelf s
  narrow_here = shelf_narrow a formed.shaped shelf_at.before s shelf_at.after place.chosen.stands

  wide_enough : p.width ≤ i.width
  wide_enough = rw width_planned (pick_cases (λ (n : ℕ). n ≤ i.width) (splits_item q i) q.width i.width (λ e. place.chosen.wide) (λ e. omega arith))

  deep_enough : p.depth ≤ s.depth
  deep_enough = rw depth_planned (pick_cases (λ (n : ℕ). n ≤ s.depth) (splits_shelf q s) q.depth s.depth (λ e. place.chosen.deep) (λ e. omega arith))

  plan_tells : p.live ≡ told h p.shelf_row p.item_row p.item.0 p.width p.depth
  unfolding plan_at
  plan_tells = refl

  body_planned : body_of p.item_row ≡ (item s.row).says (first_row (item 0).row item_at_of.before) i (first_row (item 0).row item_at_of.after)
  body_planned = ap body_of item_read ∙ item_row_says h S I a stored formed q at place

  -- the rectangle is that of the shelf as it fits and the item as it is granted
  live_planned : p.live ≡ live_of a.limits (upper_part p.depth s) (granted_item i p.width)
  unfolding header_of body_of
  live_planned =
      plan_tells
      ∙ ap (λ (x : ItemIndex). told h p.shelf_row p.item_row x.0 p.width p.depth) at_item
      ∙ told_says h a.limits s i p.shelf_row p.item_row p.width p.depth
      (ap (λ (x : Header). x.limits) stored.header)
      (ap (λ (v : ShelfRow). v.y) (shelf_read ∙ shelf_row_says h S I a stored formed q at place))
      (ap (λ (b : Body). b.x) body_planned)
      (ap (λ (b : Body). b.generation) body_planned)
      (omega (arith, item_narrow s narrow_here item_at_of.before i item_at_of.after place.chosen.spot.stands, wide_enough))
      (omega (arith, narrow_here.reach, deep_enough))

  -- what the grant relies on: the rows of shelf and item are used, and used item rows link among themselves
  pub plan_there : PlanThere S I p
  plan_there =
      let used : i.row < a.rows.items.used = found_used h S I a stored formed (record { shelf = shelf_at; item = item_at_of }) i.row (place.chosen.stands, place.chosen.spot.stands, refl) in
      let served : s.row ∈ shelf_rows_of a.shelves = subst (λ (ss : List Shelf). s.row ∈ shelf_rows_of ss) (sym place.chosen.stands) (in_onto (λ (x : Shelf). x.row ∷ []) s.row shelf_at.before (s ∷ shelf_at.after) (inr (List·Memᴰ·head refl))) in
      record {
        shelf = rw at_shelf (omega (arith, formed.sound.shelf_rows.serving_used s.row served, used_shelves_lem st a stands));
        item = rw at_item (omega (arith, used, used_items_lem st a stands));
        links = rw item_read (linked_there (links-within st a stands formed.shaped.all_listed (omega (arith, used))) i.row (inl used));
      }

  -- ---- the two ways of a grant

  module _ (within : Placeable a.limits q) (rows_there : has_rows h S I p ≡ true) where
    -- what is to be shown
    abbrev Grants : Type 0
    Grants = (a' : Atlas)
        × (grant (room_in S I) a q ≡ grants p.live a')
        × Becomes S I (grant_at st p).header (grant_at st p).shelves (grant_at st p).items a'

    suffice : too_few_rows (room_in S I) a.rows (splits_shelf q s) (splits_item q i) ≡ false
    suffice = rows_suffice h S I a stored formed q at place rows_there

    -- Both ways end alike: the atlas that is led to is in shape, so the audit meets it.
    closed : (on_shelf : Focus Shelf) (below : List Shelf) (rows_then : Rows) (fitted : State) (placed : Placement a q on_shelf item_at_of below rows_then fitted p)
        → fit_shelf st p ≡ fitted → grant (room_in S I) a q ≡ grant_item a q on_shelf item_at_of below rows_then → p.live ≡ live_of a.limits on_shelf.this (granted_item i (width_of q i))
        → Leads st (occupy (take_item fitted p) p) placed.after → Grants
    unfolding grant_at
    closed on_shelf below rows_then fitted placed fits e tells led =
        let shaped : Shaped placed.after = grant_shaped (room_in S I) a q _ placed.after formed within (e ∙ placed.is) in
        (placed.after, e ∙ placed.is ∙ ap (λ (l : Live). grants l placed.after) (sym tells), rw fits (becomes h S I (occupy (take_item fitted p) p) placed.after led shaped))

    -- ---- the shelf as it is

    all_here : Each AllListed (back_onto shelf_at.before (s ∷ shelf_at.after))
    all_here = rw place.chosen.stands at formed.shaped.all_listed

    same_atlas : a ≡ before_grant a shelf_at shelf_at.after a.rows
    same_atlas = ap (λ (ss : List Shelf). record { limits = a.limits; shelves = ss; rows = a.rows }) place.chosen.stands

    place_unsplit : splits_shelf q s ≡ false → grant_in_shelf (room_in S I) a q shelf_at item_at_of ≡ grant_item a q shelf_at item_at_of shelf_at.after a.rows
    unfolding grant_in_shelf
    place_unsplit e = rw (suffice, e)

    left_unsplit : splits_shelf q s ≡ false → splits_item q i ≡ true → 0 < rows_left_of (rows items I) a.rows.items
    unfolding room_in count
    left_unsplit e wider = omega (arith, (enough (room_in S I) a.rows false true (rw (e, wider) at suffice)).1)

    depth_unsplit : splits_shelf q s ≡ false → p.depth ≡ s.depth
    depth_unsplit e = depth_planned ∙ ap (λ (b : Bool). pick b q.depth s.depth) e

    plan_unsplit : splits_shelf q s ≡ false → PlanFor st p s i
    plan_unsplit e = record { at_shelf = at_shelf; at_item = at_item; first_free = first_planned; as_read = item_read; depth = depth_unsplit e }

    -- the shelf is kept as it is, and the item granted in the state that the step began with
    unsplit : splits_shelf q s ≡ false → Grants
    unfolding upper_part
    unsplit e =
        let led : Leads st st (before_grant a shelf_at shelf_at.after a.rows) = leads_same st _ (subst (Stands st) same_atlas stands) in
        let total : occupied (back_onto shelf_at.before (s ∷ shelf_at.after)) ≤ most_area = rw place.chosen.stands at (shaped_narrow a formed.shaped).total in
        closed shelf_at shelf_at.after a.rows st
        (placed st st a shelf_at item_at_of shelf_at.after a.rows q led place.chosen.spot.stands place.chosen.spot.listed all_here narrow_here total place.chosen.wide (left_unsplit e) p (plan_unsplit e) item_planned width_planned)
        (fits_whole st p (shelf_planned ∙ e))
        (place.grant_is ∙ place_unsplit e)
        (live_planned ∙ rw (depth_unsplit e, width_planned))
        (grant_leads st st a shelf_at item_at_of shelf_at.after a.rows q led place.chosen.spot.stands place.chosen.spot.listed all_here narrow_here total place.chosen.wide (left_unsplit e) p (plan_unsplit e) item_planned width_planned)

    -- ---- the shelf split first

    -- the upper part in its place, what follows it, the rows once two are taken, and the state that the split leaves
    abbrev depth_asked : ℕ
    depth_asked = q.depth

    abbrev upper_at : Focus Shelf
    upper_at = record { before = shelf_at.before; this = upper_part depth_asked s; after = shelf_at.after }

    abbrev below : List Shelf
    below = lower_part a.limits a.rows depth_asked s ∷ shelf_at.after

    abbrev rows-after : Rows
    rows-after = item_taken (shelf_taken a.rows)

    abbrev after_split : State
    after_split = fit_shelf st p

    place_split : splits_shelf q s ≡ true → grant_in_shelf (room_in S I) a q shelf_at item_at_of ≡ grant_item a q upper_at item_at_of below rows-after
    unfolding grant_in_shelf
    place_split e = rw (suffice, e)

    -- one row of each table for the shelf, and one more of the item table where the item is split too
    left_split : splits_shelf q s ≡ true → (0 < rows_left_of (rows shelves S) a.rows.shelves) × (0 < rows_left_of (rows items I) a.rows.items)
    unfolding room_in count
    left_split e = let n = enough (room_in S I) a.rows true (splits_item q i) (rw e at suffice) in (omega (arith, n.0), omega (arith, n.1))

    left_both : splits_shelf q s ≡ true → splits_item q i ≡ true → 2 ≤ rows_left_of (rows items I) a.rows.items
    unfolding room_in count
    left_both e x = omega (arith, (enough (room_in S I) a.rows true true (rw (e, x) at suffice)).1)

    depth_split : splits_shelf q s ≡ true → p.depth ≡ q.depth
    depth_split e = depth_planned ∙ ap (λ (b : Bool). pick b q.depth s.depth) e

    led_split : splits_shelf q s ≡ true → Leads st after_split (before_grant a upper_at below rows-after)
    led_split e = fit_split st a shelf_at.before s shelf_at.after q place.chosen.stands stands e (omega (arith, narrow_here.reach)) (left_split e).0 (left_split e).1 p (shelf_planned ∙ e) at_shelf shelf_read (depth_split e)

    left_then : splits_shelf q s ≡ true → splits_item q i ≡ true → 0 < rows_left_of (rows items after_split.items) rows-after.items
    unfolding item_taken shelf_taken
    left_then e x = rw (rows_long items after_split.items I (led_split e).items_past.as_long) (left_after (rows items I) a.rows.items (left_both e x))

    all_split : Each AllListed (back_onto shelf_at.before (upper_part depth_asked s ∷ below))
    unfolding upper_part lower_part
    all_split =
        let (bs, ys) = each_split AllListed shelf_at.before (s ∷ shelf_at.after) all_here in
        each_join AllListed shelf_at.before (upper_part depth_asked s ∷ below) bs (ys.0, (λ x m. m, ys.1))

    total_split : splits_shelf q s ≡ true → occupied (back_onto shelf_at.before (upper_part depth_asked s ∷ below)) ≤ most_area
    unfolding header_of
    total_split e =
        omega (
          arith,
          ap (λ (x : Header). x.occupied) (led_split e).stands.stored.header,
          fit_occupied st p,
          ap (λ (x : Header). x.occupied) stored.header,
          (shaped_narrow a formed.shaped).total,
        )

    -- the split leaves the row of the item as it was: the same is known of it in both states
    row_kept : splits_shelf q s ≡ true → get items after_split.items i.row ≡ get items I i.row
    unfolding upper_part
    row_kept e =
        let (fb, fa, free_are) = focus_of [] s.free i.row place.chosen.spot.listed in
        let items_are = place.chosen.spot.stands in
        let after : Atlas = before_grant a upper_at below rows-after in
        let after_at : Focus Shelf = record { before = shelf_at.before; this = upper_part depth_asked s; after = below } in
        same_row _ _
        (item_body after_split after after_at item_at_of refl items_are (led_split e).stands ∙ sym (item_body st a shelf_at item_at_of place.chosen.stands items_are stands))
        (item_links after_split after after_at item_at_of refl items_are (led_split e).stands fb fa free_are ∙ sym (item_links st a shelf_at item_at_of place.chosen.stands items_are stands fb fa free_are))

    plan_split : splits_shelf q s ≡ true → PlanFor after_split p (upper_part depth_asked s) i
    unfolding upper_part
    plan_split e = record { at_shelf = at_shelf; at_item = at_item; first_free = first_planned; as_read = item_read ∙ sym (row_kept e); depth = depth_split e }

    -- the shelf is split, and the item granted in its upper part, in the state that the split led to
    split : splits_shelf q s ≡ true → Grants
    unfolding upper_part
    split e =
        let narrow : NarrowShelf (upper_part depth_asked s) = upper_narrow s depth_asked place.chosen.deep narrow_here in
        closed upper_at below rows-after after_split
        (placed st after_split a upper_at item_at_of below rows-after q (led_split e) place.chosen.spot.stands place.chosen.spot.listed all_split narrow (total_split e) place.chosen.wide (left_then e) p (plan_split e) item_planned width_planned)
        refl
        (place.grant_is ∙ place_split e)
        (live_planned ∙ rw (depth_split e, width_planned))
        (grant_leads st after_split a upper_at item_at_of below rows-after q (led_split e) place.chosen.spot.stands place.chosen.spot.listed all_split narrow (total_split e) place.chosen.wide (left_then e) p (plan_split e) item_planned width_planned)

    pub grant_done : Grants
    grant_done = go (splits_shelf q s) refl where
      go : (b : Bool) → splits_shelf q s ≡ b → Grants
      go true e = split e
      go false e = unsplit e
