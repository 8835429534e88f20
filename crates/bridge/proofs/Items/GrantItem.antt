-- An item of a shelf granted, whole or its left part: the step's item table, its shelf's row and its header are those in which the granted atlas
-- stands. Assumes nothing.
use Rattle.std.specs.Prelude.{◌<◌, ◌≤◌, ◌+◌, ◌*◌, ◌≡◌, ◌∷◌, ◌++◌}
use Rattle.numbers.specs.Library.{ℕ, refl, ap, ◌∙◌, inr, Bool, true, false, List, [], List·Memᴰ·head, mul-le-mul_right}
use Rattle.numbers.specs.Library.{arith, eqb}
use Rattle.numbers.specs.Prelude.{pick, pick_ap, most_area}
use Rattle.numbers.specs.declared.index.ItemIndex.{ItemIndex}
use Rattle.chains.specs.Prelude.{◌∈◌, Focus, back_onto, first_row, first_of}
use Rattle.chains.proofs.Prelude.{onto_apart, in_onto, self, first_onto, each_split}
use Rattle.rows.specs.Prelude.{rows, get, change, items, shelves, body_of, links_of, with_used_items, with_free_items, with_occupied}
use Rattle.pool.specs.Pool.{new_item}
use Rattle.rows.specs.declared.header.Header.{Header}
use Rattle.plan.specs.declared.Plan.{Plan}
use Rattle.rules.specs.Prelude.{Item, Shelf, Freed, Pool, Atlas, is_empty_of, live_area, occupied, taken, rows_left_of, new_item_row, granted_item, rest_of, replace_row}
use Rattle.rules.specs.Prelude.{holding, grant_whole, grant_part, item, flag, header_of, room_in, all_item_rows}
use Rattle.rules.specs.Grant.{item_taken as itemRowTaken}
use Rattle.wrap.specs.Wrap.{plus32, plus32_is}
use Rattle.rows.specs.State.{State}
use Rattle.live_rows.specs.Live.{at_row}
use Rattle.item_edits.specs.ItemEdits.{first_after}
use Rattle.shelf_edits.specs.ShelfEdits.{with_free}
use Rattle.grant.specs.Grant.{use_shelf, take_part, take_whole, with_area_added as occupiedAfter}
use Rattle.bridge.proofs.Items.RowViews.{seen_next_free}
use Rattle.rules.proofs.LiveRows.{live_free}
use Rattle.laws.proofs.Shape.GrantShaped.{in_use as not_empty}
use Rattle.bridge.proofs.Items.SumsAndFreeLists.{area_onto, occupied_onto, replace_at, first_listed}
use Rattle.bridge.proofs.Stands.{Stands, on_row, used_items_lem}
use Rattle.bridge.proofs.Items.NoWrap.{widths, NarrowShelf, area_within}
use Rattle.bridge.proofs.Items.PoolRows.{freed_row, with_pool, item_new, item_header}
use Rattle.bridge.proofs.Items.OpenShelf.{Open, once, links_are}
use Rattle.bridge.proofs.Items.MarkItem.{live_of, body_is}
use Rattle.bridge.proofs.Items.ComposedEdits.{whole_open, part_open}
use Rattle.bridge.proofs.Items.CloseShelf.{reshelved, open_shelf, close_stands, close_header}

-- the state in which the area planned is occupied
abbrev pub occupy : State → Plan → State
occupy st p = record { header = occupiedAfter st.header (p.width * p.depth); shelves = st.shelves; items = st.items }

-- A plan at this item of this shelf: the rows as they stand, and the depth that the shelf has once it fits.
pub record PlanFor (st : State) (p : Plan) (s : Shelf) (i : Item) : Type 0 where
  pub at_shelf : p.shelf ≡ on_row s.row
  pub at_item : p.item ≡ at_row i.row
  pub first_free : p.shelf_row.first_unallocated ≡ at_row (first_of s.free)
  pub as_read : p.item_row ≡ get items st.items i.row
  pub depth : p.depth ≡ s.depth

module _ (st : State) (a : Atlas) (shelf_at : Focus Shelf) (item_at_of : Focus Item)
    (shelves_are : a.shelves ≡ back_onto shelf_at.before (shelf_at.this ∷ shelf_at.after))
    (items_are : shelf_at.this.items ≡ back_onto item_at_of.before (item_at_of.this ∷ item_at_of.after))
    (fb fa : List ℕ) (free_are : shelf_at.this.free ≡ back_onto fb (item_at_of.this.row ∷ fa))
    (stands : Stands st a) (narrow : NarrowShelf shelf_at.this) (total : occupied a.shelves ≤ most_area)
    (p : Plan) (planned : PlanFor st p shelf_at.this item_at_of.this) where
  abbrev h : Header
  h = st.header

  abbrev S : List ℕ
  S = st.shelves

  abbrev I : List ℕ
  I = st.items

  abbrev s : Shelf
  s = shelf_at.this

  abbrev i : Item
  i = item_at_of.this

  abbrev others : List ℕ
  others = all_item_rows shelf_at.before ++ all_item_rows shelf_at.after

  opened : Open I I s.row (back_onto item_at_of.before (i ∷ item_at_of.after)) (back_onto fb (i.row ∷ fa)) a.rows.items others
  opened = rw (items_are, free_are) at (open_shelf st a shelf_at.before s shelf_at.after shelves_are stands)

  -- what the item's row, as it was read, says
  plan_links : links_of p.item_row ≡ record { prev = first_of fb; next = first_of fa }
  plan_links = ap links_of planned.as_read ∙ links_are fb i.row fa opened

  plan_body : body_of p.item_row ≡ (item s.row).says (first_row (item s.row).row item_at_of.before) i (first_row (item s.row).row item_at_of.after)
  plan_body = ap body_of planned.as_read ∙ body_is item_at_of.before i item_at_of.after opened

  -- the item is on the free list, and no live one is
  was_free : i.live ≡ false
  was_free = go i.live refl where
    go : (b : Bool) → i.live ≡ b → i.live ≡ false
    go false e = e
    go true e = absurd (live_free (back_onto item_at_of.before (i ∷ item_at_of.after)) (once opened) i.row
        (in_onto live_of i.row item_at_of.before (i ∷ item_at_of.after) (inr (rw e (List·Memᴰ·head refl))))
        (opened.only i.row (in_onto (λ r. r ∷ []) i.row fb (i.row ∷ fa) (inr (List·Memᴰ·head refl)))))

  listed_once : i.row ∈ fb → ⊥
  listed_once m = (onto_apart (λ r. r ∷ []) fb (i.row ∷ fa) opened.free_once).2 i.row (rw self m) (List·Memᴰ·head refl)

  cut : (new : List ℕ) → replace_row i.row new s.free ≡ back_onto fb (new ++ fa)
  cut new = rw free_are (replace_at i.row new fb fa listed_once)

  -- the first free row that the shelf's row then names
  named : (new : ItemIndex) (fa' : List ℕ) → new.0 ≡ first_of fa' → (first_after p.shelf_row.first_unallocated p.item new).0 ≡ first_of (back_onto fb fa')
  unfolding first_after
  named new fa' e =
      rw (planned.first_free, planned.at_item, free_are) (pick_ap (λ (k : ItemIndex). k.0) (eqb (first_of (back_onto fb (i.row ∷ fa))) i.row) new (at_row (first_of (back_onto fb (i.row ∷ fa)))) ∙ first_listed fb i.row new.0 fa fa' listed_once e)

  -- so much more is occupied
  more : (width : ℕ) (after-it : List Item) (s' : Shelf) → s'.depth ≡ s.depth → s'.items ≡ back_onto item_at_of.before (granted_item i width ∷ after-it) → live_area s.depth after-it ≡ live_area s.depth item_at_of.after
      → h.occupied + width * s.depth ≡ occupied (back_onto shelf_at.before (s' ∷ shelf_at.after))
  unfolding header_of occupied live_area granted_item
  more width after-it s' same-depth items-then area-kept =
      let now : live_area s'.depth s'.items ≡ live_area s.depth (back_onto item_at_of.before (granted_item i width ∷ after-it)) = rw (same-depth, items-then) in
      omega (
        arith,
        ap (λ (q : Header). q.occupied) stands.stored.header ∙ ap occupied shelves_are,
        occupied_onto shelf_at.before (s ∷ shelf_at.after),
        occupied_onto shelf_at.before (s' ∷ shelf_at.after),
        ap (live_area s.depth) items_are,
        area_onto s.depth item_at_of.before (i ∷ item_at_of.after),
        area_onto s.depth item_at_of.before (granted_item i width ∷ after-it),
        ap (λ (b : Bool). pick b (i.width * s.depth) 0) was_free,
        now,
      )

  module _ (width : ℕ) (after-it : List Item) where
    first_is : first_row (item s.row).row (back_onto item_at_of.before (granted_item i width ∷ after-it)) ≡ first_row (item s.row).row s.items
    unfolding granted_item
    first_is = rw items_are (first_onto (item s.row) item_at_of.before (granted_item i width) i after-it item_at_of.after refl)

    in_use : 0 ≡ flag (is_empty_of (back_onto item_at_of.before (granted_item i width ∷ after-it)))
    unfolding granted_item
    in_use = rw (not_empty item_at_of.before (granted_item i width) after-it refl)

    total_is : (fl : List ℕ) → live_area s.depth after-it ≡ live_area s.depth item_at_of.after
        → h.occupied + width * s.depth ≡ occupied (back_onto shelf_at.before (holding s (back_onto item_at_of.before (granted_item i width ∷ after-it)) fl ∷ shelf_at.after))
    unfolding holding
    total_is fl area-kept = more width after-it (holding s (back_onto item_at_of.before (granted_item i width ∷ after-it)) fl) refl refl area-kept

    -- the area planned is added; the sum does not wrap
    added : width ≤ i.width → p.width ≡ width → plus32 h.occupied (p.width * p.depth) ≡ h.occupied + width * s.depth
    unfolding header_of
    added fits is-width =
        let small : width * s.depth ≤ most_area =
        omega (arith, mul-le-mul_right s.depth fits, area_within s.depth item_at_of.before i item_at_of.after, ap (λ (l : List Item). widths l * s.depth) items_are, narrow.area) in
        let before : h.occupied ≡ occupied a.shelves = ap (λ (q : Header). q.occupied) stands.stored.header in
        let room : h.occupied + width * s.depth < 4294967296 = omega (arith, total) in
        rw (is-width, planned.depth) (plus32_is h.occupied (width * s.depth) room)

  -- the shelf closed: what is left to know of the state before the sum is written
  grant_stands : (width : ℕ) (after-it : List Item) (fl : List ℕ) (pool : Pool Freed) (taken-state : State) (first : ItemIndex) → width ≤ i.width → p.width ≡ width
      → Open I taken-state.items s.row (back_onto item_at_of.before (granted_item i width ∷ after-it)) fl pool others
      → live_area s.depth after-it ≡ live_area s.depth item_at_of.after
      → first.0 ≡ first_of fl
      → taken-state.shelves ≡ change shelves S s.row (with_free first 0)
      → taken-state.header ≡ with_pool pool h
      → Stands (occupy taken-state p) (reshelved a shelf_at.before (holding s (back_onto item_at_of.before (granted_item i width ∷ after-it)) fl) shelf_at.after pool)
  unfolding occupiedAfter with_used_items with_free_items
  grant_stands width after-it fl pool taken-state first fits is-width opened-then area-kept first-is-listed shelves-then header-then =
      let is : List Item = back_onto item_at_of.before (granted_item i width ∷ after-it) in
      rw (shelves-then, header-then)
      (close_stands st a shelf_at.before s shelf_at.after shelves_are stands taken-state.items is fl pool opened-then (first_is width after-it) first 0 first-is-listed (in_use width after-it) _
      (ap (λ (n : ℕ). with_occupied n (with_pool pool h)) (added width after-it fits is-width)
      ∙ close_header st a shelf_at.before s shelf_at.after shelves_are stands (holding s is fl) pool (h.occupied + width * s.depth) (total_is width after-it fl area-kept)))

  -- ---- the whole item

  -- the header as it is, by the pool that it names
  same_header : h ≡ with_pool a.rows.items h
  unfolding header_of with_used_items with_free_items
  same_header = cc stands.stored.header

  -- the shelf's row, as the code names it
  used_is : (new : ItemIndex) → use_shelf S p new ≡ change shelves S s.row (with_free (first_after p.shelf_row.first_unallocated p.item new) 0)
  unfolding use_shelf
  used_is new = rw planned.at_shelf

  pub whole_stands : p.width ≡ i.width → Stands (occupy (take_whole st p) p)
      (record { limits = a.limits; shelves = back_onto shelf_at.before (grant_whole s item_at_of ∷ shelf_at.after); rows = a.rows })
  unfolding grant_whole take_whole
  whole_stands is-width =
      grant_stands i.width item_at_of.after (replace_row i.row [] s.free) a.rows.items (take_whole st p)
      (first_after p.shelf_row.first_unallocated p.item p.item_row.next_unallocated) (omega arith) is-width
      (rw (cut []) (whole_open a.rows item_at_of.before i item_at_of.after fb fa opened p planned.at_item plan_links)) refl
      (rw (cut []) (named p.item_row.next_unallocated fa (ap (λ (k : ItemIndex). k.0) (seen_next_free p.item_row plan_links)))) (used_is _) same_header

  -- ---- the left part of it

  module _ (width : ℕ) (is-width : p.width ≡ width) (within : width ≤ i.width) (left : 0 < rows_left_of (room_in S I).items a.rows.items) where
    head : h.free_items.0 ≡ first_row freed_row a.rows.items.freed
    unfolding header_of
    head = ap (λ (q : Header). q.free_items.0) stands.stored.header

    used : h.used_items ≡ a.rows.items.used
    unfolding header_of
    used = ap (λ (q : Header). q.used_items) stands.stored.header

    left' : 0 < rows_left_of (rows items I) a.rows.items
    unfolding room_in
    left' = left

    span : i.x + i.width ≤ 65535
    span = (each_split (λ (j : Item). j.x + j.width ≤ 65535) item_at_of.before (i ∷ item_at_of.after) (rw items_are at narrow.spans)).1.0

    new_is : (new_item h).0 ≡ new_item_row a.rows
    unfolding new_item_row
    new_is = ap (λ (k : ItemIndex). k.0) (item_new I h (all_item_rows a.shelves) a.rows.items head used (used_items_lem st a stands) left' stands.sound.item_rows stands.stored.freed_items_lem)

    rest_free : live_area s.depth (rest_of a.rows i width ∷ item_at_of.after) ≡ live_area s.depth item_at_of.after
    unfolding live_area rest_of
    rest_free = omega arith

    pub part_stands : Stands (occupy (take_part st p) p)
        (record { limits = a.limits; shelves = back_onto shelf_at.before (grant_part a.rows s item_at_of width ∷ shelf_at.after); rows = itemRowTaken a.rows })
    unfolding grant_part itemRowTaken take_part
    part_stands =
        grant_stands width (rest_of a.rows i width ∷ item_at_of.after) (replace_row i.row (new_item_row a.rows ∷ []) s.free) (taken a.rows.items) (take_part st p)
        (first_after p.shelf_row.first_unallocated p.item (new_item h)) within is-width
        (rw (cut (new_item_row a.rows ∷ [])) (part_open a.rows item_at_of.before i item_at_of.after fb fa opened p planned.at_item plan_links h head used left' width is-width within span plan_body)) rest_free
        (rw (cut (new_item_row a.rows ∷ [])) (named (new_item h) (new_item_row a.rows ∷ fa) new_is)) (used_is _)
        (item_header I h (all_item_rows a.shelves) a.rows.items head used (used_items_lem st a stands) left' stands.sound.item_rows stands.stored.freed_items_lem)
