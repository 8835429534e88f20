-- An empty shelf merged into the empty one above it: the upper one is as deep as both, and the rows of the lower one and of its item are freed. The
-- merged atlas stands in what the step leaves. Assumes nothing.
use Rattle.std.specs.Prelude.{◌<◌, ◌+◌, ◌^◌, ◌≡◌, ◌≢◌, ◌⊎◌, ◌∷◌, ◌++◌}
use Rattle.numbers.specs.Library.{ℕ, refl, sym, ap, ◌∙◌, inl, inr, true, false, List, [], List·Memᴰ·head}
use Rattle.numbers.specs.Library.{List·Memᴰ·tail, Memᴰ·cast, Memᴰ·append-left, Memᴰ·append-right, arith, ltb}
use Rattle.numbers.specs.Prelude.{no_row}
use Rattle.chains.specs.Prelude.{◌∈◌, Distinct, Each, back_onto, first_row, Chain}
use Rattle.chains.proofs.Prelude.{distinct_right, distinct_apart, onto_apart, in_onto, self, each_join, chain_any, chain_frame, ne_first}
use Rattle.chains.proofs.Prelude.{chain_drop, rows_drop}
use Rattle.rows.specs.Prelude.{rows, get, put, rows-put, change, rows-change, Past, past_same, past_put, past_change, items, shelves, with_height, with_shelf_prev}
use Rattle.rows.specs.Prelude.{with_shelf_next, with_free_items, with_free_shelves, body_of}
use Rattle.pool.specs.Pool.{freed_item_row, item_freed, remove_item, freed_shelf_row, remove_shelf, remove_shelf_item, shelf_freed}
use Rattle.rows.specs.declared.header.Header.{Header}
use Rattle.rules.specs.Prelude.{Item, Shelf, Freed, Atlas, live_area, occupied, freeing, free_item_row, free_shelf_row, free_shelf, deeper, shelf, item, freed_shelf}
use Rattle.rules.specs.Prelude.{freed_item_of, Holds, header_of, Stores, room_in, shelf_rows_of, item_rows_of, all_item_rows, freed_rows, FreeListed, Sound}
use Rattle.rules.proofs.Frames.{holds_frame, each_holds}
use Rattle.wrap.specs.Wrap.{plus16_is}
use Rattle.rows.specs.State.{State, state}
use Rattle.shelf_edits.specs.ShelfEdits.{with_reach, join_shelves, merge_shelves}
use Rattle.bridge.proofs.Items.RowViews.{reads, seen_generation}
use Rattle.bridge.proofs.Stands.{Stands, Around, around, on_row, used_shelves_lem, used_items_lem, shelf_says, shelf_some, shelf_there, item_there, first_used}
use Rattle.bridge.proofs.Items.SumsAndFreeLists.{occupied_onto}
use Rattle.bridge.proofs.Items.PoolRows.{freed_shared}
use Rattle.bridge.proofs.LeadsTo.{Leads}

module _ (st : State) (a : Atlas) (bs : List Shelf) (upper lower : Shelf) (ys : List Shelf) (lower-item upper-item : Item)
    (are : a.shelves ≡ back_onto bs (upper ∷ lower ∷ ys))
    (lone : lower.items ≡ lower-item ∷ []) (is_free : lower-item.live ≡ false)
    (lone-above : upper.items ≡ upper-item ∷ []) (is-free-above : upper-item.live ≡ false)
    (low : upper.depth + lower.depth < 2 ^ 16)
    (stands : Stands st a) where
  abbrev h : Header
  h = st.header

  abbrev S : List ℕ
  S = st.shelves

  abbrev I : List ℕ
  I = st.items

  abbrev stored : Stores h S I a
  stored = stands.stored

  abbrev sound : Sound (room_in S I) a
  sound = stands.sound

  abbrev deepened : Shelf
  deepened = deeper upper (upper.depth + lower.depth)

  abbrev next : ℕ
  next = first_row shelf.row ys

  -- ---- the rows that are read

  chain : Chain shelf (get shelves S) no_row (back_onto bs (upper ∷ lower ∷ ys))
  chain = rw are at stored.shelf_chain

  above_is : get shelves S upper.row ≡ shelf.says (first_row shelf.row bs) upper lower.row
  above_is = shelf_says st a stands bs upper (lower ∷ ys) are

  below_is : get shelves S lower.row ≡ shelf.says upper.row lower next
  below_is = shelf_says st a stands (upper ∷ bs) lower ys are

  serves : (r : ℕ) → (r ∈ shelf_rows_of bs) ⊎ (r ∈ shelf_rows_of (upper ∷ lower ∷ ys)) → r ∈ shelf_rows_of a.shelves
  serves r o = rw are (in_onto (λ (q : Shelf). q.row ∷ []) r bs (upper ∷ lower ∷ ys) o)

  upper_in : upper.row ∈ shelf_rows_of a.shelves
  upper_in = serves upper.row (inr (List·Memᴰ·head refl))

  lower_in : lower.row ∈ shelf_rows_of a.shelves
  lower_in = serves lower.row (inr (List·Memᴰ·tail (List·Memᴰ·head refl)))

  shelf_once : Distinct (shelf_rows_of (back_onto bs (upper ∷ lower ∷ ys)))
  shelf_once = rw are at sound.shelf_rows.serving_once

  some : (r : ℕ) → r ∈ shelf_rows_of a.shelves → r ≢ no_row
  some r m = shelf_some st a stands r (sound.shelf_rows.serving_used r m)

  lower_upper : lower.row ≢ upper.row
  lower_upper e = (onto_apart (λ (q : Shelf). q.row ∷ []) bs (upper ∷ lower ∷ ys) shelf_once).1.0 (List·Memᴰ·head (sym e))

  lower_next : lower.row ≢ next
  lower_next = ne_first shelf ys lower.row (some lower.row lower_in) (onto_apart (λ (q : Shelf). q.row ∷ []) bs (upper ∷ lower ∷ ys) shelf_once).1.1.0

  -- ---- the step

  abbrev joined : List ℕ
  joined = change shelves (change shelves S upper.row (with_reach (upper.depth + lower.depth) (on_row next))) next (with_shelf_prev (on_row upper.row))

  abbrev S' : List ℕ
  S' = put shelves joined lower.row (freed_shelf_row h.free_shelves)

  abbrev I' : List ℕ
  I' = put items I lower-item.row (freed_item_row h.free_items (get items I lower-item.row).generation)

  abbrev h' : Header
  h' = with_free_shelves (on_row lower.row) (with_free_items (record { 0 = lower-item.row }) h)

  join_is : join_shelves S (on_row upper.row) (on_row lower.row) ≡ joined
  unfolding join_shelves
  join_is = rw (above_is, below_is, plus16_is upper.depth lower.depth low)

  its_item : (get shelves joined lower.row).first_item ≡ record { 0 = lower-item.row }
  its_item = simp (reads, lower_upper, lower_next) (rw (below_is, lone))

  merge_is : merge_shelves st (on_row upper.row) (on_row lower.row) ≡ state h' S' I'
  unfolding merge_shelves remove_shelf remove_shelf_item remove_item shelf_freed item_freed
  merge_is = rw (join_is, its_item)

  -- ---- the shelf chain and the freed shelves

  there : (r : ℕ) → r ∈ shelf_rows_of (back_onto bs (upper ∷ lower ∷ ys)) → ltb r (rows shelves S) ≡ true
  there r m = shelf_there st a stands r (rw are m)

  -- the lower shelf is dropped from the chain: the upper one names the next shelf, and that one the upper
  new_chain : Chain shelf (get shelves S') no_row (back_onto bs (deepened ∷ ys))
  unfolding deeper with_reach with_height with_shelf_next with_shelf_prev
  new_chain =
      chain_drop shelf (get shelves S) (get shelves S') bs upper deepened lower ys refl shelf_once (λ r m. some r (rw are m))
      (with_shelf_prev (on_row upper.row)) (λ x m. refl)
      (λ r m x y z. simp reads)
      (λ r m x y e. rw (← e) (simp (reads, there r m)))
      (λ says-upper says-lower x y. simp (reads, shelf_there st a stands upper.row upper_in) (rw says-upper))
      chain

  new_freed_shelves : Chain freed_shelf (get shelves S') no_row (lower.row ∷ a.rows.shelves.freed)
  unfolding header_of
  new_freed_shelves = (
    simp (reads, shelf_there st a stands lower.row lower_in) (ap (λ (q : Header). freed_shelf_row q.free_shelves) stored.header),
    chain_frame freed_shelf (get shelves S) (get shelves S') lower.row a.rows.shelves.freed
        (λ r m.
        let idle : (r < a.rows.shelves.used) × (¬ (r ∈ shelf_rows_of a.shelves)) = (sound.shelf_rows.freed_exactly r).0 (rw self at m) in
        let out : (q : ℕ) → q ∈ shelf_rows_of a.shelves → r ≢ q = λ q k e. idle.1 (Memᴰ·cast e k) in
        let n : r ≢ next = ne_first shelf ys r (shelf_some st a stands r idle.0) (λ k. idle.1 (serves r (inr (List·Memᴰ·tail (List·Memᴰ·tail k))))) in
        simp (reads, out upper.row upper_in, out lower.row lower_in))
        (chain_any freed_shelf (λ prev prev' e next. refl) (get shelves S) no_row lower.row a.rows.shelves.freed stored.freed_shelves_lem),
  )

  -- ---- the items and the freed items

  item_same : (r : ℕ) → r ≢ lower-item.row → get items I' r ≡ get items I r
  item_same r n = simp reads

  item_here : lower-item.row ∈ all_item_rows (upper ∷ lower ∷ ys)
  item_here = Memᴰ·append-right (item_rows_of upper.items) (rw lone (List·Memᴰ·head refl))

  item_in : lower-item.row ∈ all_item_rows a.shelves
  item_in = rw are (in_onto (λ (q : Shelf). item_rows_of q.items) lower-item.row bs (upper ∷ lower ∷ ys) (inr item_here))

  parts : Around I bs upper (lower ∷ ys)
  parts = around st a stands bs upper (lower ∷ ys) are

  -- one item row is written, the lower shelf's, which is none of the rows of the other shelves
  new_items : Each (Holds I') (back_onto bs (deepened ∷ ys))
  unfolding deeper
  new_items =
      let (once-before, once-from, apart) = onto_apart (λ (q : Shelf). item_rows_of q.items) bs (upper ∷ lower ∷ ys) (rw are at sound.item_rows.serving_once) in
      let once_lower : Distinct (item_rows_of lower.items ++ all_item_rows ys) = distinct_right (item_rows_of upper.items) (all_item_rows (lower ∷ ys)) once-from in
      let its_item_in : lower-item.row ∈ item_rows_of lower.items = rw lone (List·Memᴰ·head refl) in
      let upper_holds : Holds I' upper = holds_frame I I' upper parts.listed_here
      (λ r m. item_same r (λ e. distinct_apart (item_rows_of upper.items) (all_item_rows (lower ∷ ys)) once-from r m (Memᴰ·append-left (all_item_rows ys) (Memᴰ·cast e its_item_in)))) parts.held_here in
      each_join (Holds I') bs (deepened ∷ ys)
      (each_holds I I' bs parts.listed_before (λ r m. item_same r (λ e. apart r m (Memᴰ·cast e item_here))) parts.held_before) (
        record { in_order = upper_holds.in_order; free_order = upper_holds.free_order; live_unlinked = upper_holds.live_unlinked },
        each_holds I I' ys parts.listed_after.1 (λ r m. item_same r (λ e. distinct_apart (item_rows_of lower.items) (all_item_rows ys) once_lower r (Memᴰ·cast e its_item_in) m)) parts.held_after.1,
      )

  abbrev freed_item : Freed
  freed_item = record { row = lower-item.row; generation = lower-item.generation }

  new_freed_items : Chain freed_item_of (get items I') no_row (freed_item ∷ a.rows.items.freed)
  unfolding header_of
  new_freed_items =
      let lower_holds : Holds I lower = parts.held_after.0 in
      let lie : Chain (item lower.row) (λ r. body_of (get items I r)) no_row (lower-item ∷ []) = rw lone at lower_holds.in_order in
      let generation_is : (get items I lower-item.row).generation ≡ lower-item.generation = seen_generation (get items I lower-item.row) lie.0 in (
        simp (reads, item_there st a stands lower-item.row item_in) (rw generation_is (ap (λ (q : Header). freed_item_row q.free_items lower-item.generation) stored.header)),
        chain_frame freed_item_of (get items I) (get items I') lower-item.row a.rows.items.freed
            (λ r k. item_same r (λ e. ((sound.item_rows.freed_exactly r).0 k).1 (Memᴰ·cast e item_in)))
            (chain_any freed_item_of (λ prev prev' e next. refl) (get items I) no_row lower-item.row a.rows.items.freed stored.freed_items_lem),
      )

  -- ---- the merged atlas

  freed_is : free_shelf lower a.rows ≡ record {
    shelves = record { used = a.rows.shelves.used; freed = lower.row ∷ a.rows.shelves.freed };
    items = record { used = a.rows.items.used; freed = freed_item ∷ a.rows.items.freed };
  }
  unfolding free_shelf free_shelf_row free_item_row freeing
  freed_is = rw (lone, free_shelf)

  -- both shelves are empty, so as much is occupied as before
  new_occupied : h.occupied ≡ occupied (back_onto bs (deepened ∷ ys))
  unfolding header_of occupied live_area deeper
  new_occupied =
      let none : (k : Item) (d : ℕ) → k.live ≡ false → live_area d (k ∷ []) ≡ 0 = λ k d e. rw e in
      omega (
        arith,
        ap (λ (q : Header). q.occupied) stored.header ∙ ap occupied are,
        occupied_onto bs (upper ∷ lower ∷ ys),
        occupied_onto bs (deepened ∷ ys),
        ap (live_area lower.depth) lone,
        none lower-item lower.depth is_free,
        ap (live_area upper.depth) lone-above,
        none upper-item upper.depth is-free-above,
        ap (live_area (upper.depth + lower.depth)) lone-above,
        none upper-item (upper.depth + lower.depth) is-free-above,
      )

  abbrev merged : Atlas
  merged = record { limits = a.limits; shelves = back_onto bs (deepened ∷ ys); rows = free_shelf lower a.rows }

  abbrev merge : State
  merge = merge_shelves st (on_row upper.row) (on_row lower.row)

  merge_lies : Stores merge.header merge.shelves merge.items merged
  unfolding header_of with_free_shelves with_free_items
  merge_lies = rw (merge_is, freed_is) (record {
    header = cc (stored.header, new_occupied);
    shelf_chain = new_chain;
    shelf_items = new_items;
    freed_shelves_lem = new_freed_shelves;
    freed_items_lem = new_freed_items;
  })

  merge_sound : Sound (room_in merge.shelves merge.items) merged
  unfolding room_in deeper
  merge_sound =
      let (shelves_once, shelf-was, shelves-to, shelves-from) = rows_drop (λ (q : Shelf). q.row ∷ []) bs upper deepened lower ys lower.row refl refl shelf_once in
      let (items_once, item-was, items-to, items_from) = rows_drop (λ (q : Shelf). item_rows_of q.items) bs upper deepened lower ys lower-item.row refl (rw lone) (rw are at sound.item_rows.serving_once) in
      rw (merge_is, freed_is) (record {
        in_room = record { shelves = simp (rows-change, rows-put) (used_shelves_lem st a stands); items = simp rows-put (used_items_lem st a stands) };
        free_listed = each_join FreeListed bs (deepened ∷ ys) parts.listed_before (record { once = parts.listed_here.once; only = parts.listed_here.only }, parts.listed_after.1);
        shelf_rows = freed_shared a.rows.shelves.used (shelf_rows_of (back_onto bs (upper ∷ lower ∷ ys))) (shelf_rows_of (back_onto bs (deepened ∷ ys))) a.rows.shelves.freed lower.row (rw are at sound.shelf_rows) shelf-was shelves_once shelves-to shelves-from;
        item_rows = freed_shared a.rows.items.used (all_item_rows (back_onto bs (upper ∷ lower ∷ ys))) (all_item_rows (back_onto bs (deepened ∷ ys))) (freed_rows a.rows.items.freed) lower-item.row (rw are at sound.item_rows) item-was items_once items-to items_from;
      })

  -- ---- nothing changes past the used rows

  shelves_stay : Past shelves a.rows.shelves.used S merge.shelves
  shelves_stay =
      let used : (r : ℕ) → r ∈ shelf_rows_of a.shelves → r < a.rows.shelves.used = sound.shelf_rows.serving_used in
      rw merge_is (past_put shelves _ (past_change shelves _ (past_change shelves _ (past_same shelves _ S)
      upper.row _ (inl (used upper.row upper_in)))
      next _ (first_used _ ys (λ r m. used r (serves r (inr (List·Memᴰ·tail (List·Memᴰ·tail m)))))))
      lower.row _ (used lower.row lower_in))

  items_stay : Past items a.rows.items.used I merge.items
  items_stay = rw merge_is (past_put items _ (past_same items _ I) lower-item.row _ (sound.item_rows.serving_used lower-item.row item_in))

  pub merge_leads : Leads st merge merged
  merge_leads = record { stands = record { stored = merge_lies; sound = merge_sound }; shelves_past = rw freed_is shelves_stay; items_past = rw freed_is items_stay }
