-- An empty shelf split in two: its row keeps the upper part, and the lower one, with an item of its own, is in rows newly taken. The split atlas
-- stands in what the step leaves. Assumes nothing.
use Rattle.std.specs.Prelude.{◌<◌, ◌≤◌, ◌+◌, ◌-◌, ◌^◌, ◌≡◌, ◌≢◌, ◌⊎◌, ◌∷◌}
use Rattle.numbers.specs.Library.{ℕ, refl, sym, ap, ◌∙◌, inl, inr, false, List, [], List·Memᴰ·head, List·Memᴰ·tail}
use Rattle.numbers.specs.Library.{List·Memᴰ·not-nil, Memᴰ·cast, Memᴰ·append-left, Memᴰ·append-right, arith, lt-ltb}
use Rattle.numbers.specs.Prelude.{no_row}
use Rattle.numbers.specs.declared.index.ShelfIndex.{ShelfIndex}
use Rattle.chains.specs.Prelude.{◌∈◌, Each, back_onto, first_row, Chain}
use Rattle.chains.proofs.Prelude.{not_out, in_onto, self, each_join, chain_frame, ne_first, chain_insert, rows_insert}
use Rattle.rows.specs.Prelude.{rows, get, put, rows-put, rows_few, change, rows-change, Past, past_same, past_put, past_change, items, with_generation, shelves}
use Rattle.rows.specs.Prelude.{with_y, with_height, with_shelf_prev, with_shelf_next, with_first_item, with_first_free, with_empty, with_used_items, with_used_shelves}
use Rattle.rows.specs.Prelude.{with_free_items, with_free_shelves, body_of, links_of}
use Rattle.pool.specs.Pool.{add_item, new_shelf, add_shelf, freed_item_row, freed_shelf_row, shelf_taken as shelfTakenAt}
use Rattle.rows.specs.declared.{header.Header.Header, item.ItemRow.ItemRow, shelf.ShelfRow.ShelfRow}
use Rattle.rules.specs.Prelude.{Item, Shelf, Freed, Pool, Atlas, is_empty_of, live_area, occupied, free_item, new_row, new_generation, taken, shelf_taken, item_taken}
use Rattle.rules.specs.Prelude.{upper_part, lower_part, rows_left_of, shelf, freed_shelf, freed_item_of, Holds, header_of, Stores, room_in, shelf_rows_of, item_rows_of, all_item_rows}
use Rattle.rules.specs.Prelude.{freed_rows, FreeListed, Shared, Sound}
use Rattle.rules.proofs.Frames.{holds_frame, each_holds}
use Rattle.wrap.specs.Wrap.{plus16_is, minus16_is}
use Rattle.rows.specs.State.{State, state}
use Rattle.item_edits.specs.ItemEdits.{lone_item}
use Rattle.shelf_edits.specs.ShelfEdits.{with_reach, lower_of, split_shelf_table, split_shelf}
use Rattle.bridge.proofs.Items.RowViews.{reads, body_lone, body-lone_item, links-lone_item}
use Rattle.bridge.proofs.Stands.{Stands, Around, around, on_row, shelf_says, shelf_width-is, shelf_some, shelf_there, first_used}
use Rattle.bridge.proofs.Items.SumsAndFreeLists.{occupied_onto}
use Rattle.bridge.proofs.Items.PoolRows.{shelf_row_of, freed_row, with_pool, Fresh, taken_shared, taken_chain, shelf_shared}
use Rattle.bridge.proofs.LeadsTo.{Leads}
use Rattle.bridge.proofs.Shelves.NewRows.{with_shelf_pool, shelf_is_fresh, item_is_fresh, new_shelf_lem, new_item_lem, both_taken, item_added}

module _ (st : State) (a : Atlas) (bs : List Shelf) (s : Shelf) (ys : List Shelf) (its_item : Item) (d : ℕ)
    (are : a.shelves ≡ back_onto bs (s ∷ ys)) (lone : s.items ≡ its_item ∷ []) (is_free : its_item.live ≡ false)
    (within : d ≤ s.depth) (low : s.y + s.depth < 2 ^ 16)
    (stands : Stands st a)
    (shelf-left : 0 < rows_left_of (rows shelves st.shelves) a.rows.shelves) (item-left : 0 < rows_left_of (rows items st.items) a.rows.items) where
  abbrev h : Header
  h = st.header

  abbrev S : List ℕ
  S = st.shelves

  abbrev I : List ℕ
  I = st.items

  abbrev stored : Stores h S I a
  stored = stands.stored

  abbrev sound : Sound (room_in S I) a
  sound = stands.sound

  abbrev shelf_pool : Pool ℕ
  shelf_pool = a.rows.shelves

  abbrev item_pool : Pool Freed
  item_pool = a.rows.items

  -- the rows that are taken, and the shelf after this one
  abbrev new_row_of : ℕ
  new_row_of = new_row shelf_row_of shelf_pool

  abbrev new_item-row : ℕ
  new_item-row = new_row freed_row item_pool

  abbrev next : ℕ
  next = first_row shelf.row ys

  -- the two parts
  abbrev upper : Shelf
  upper = record { row = s.row; x = s.x; y = s.y; depth = d; items = s.items; free = s.free }

  abbrev lower : Shelf
  lower = record {
    row = new_row_of;
    x = s.x;
    y = s.y + d;
    depth = s.depth - d;
    items = free_item new_item-row s.x a.limits.shelf_width (new_generation item_pool) ∷ [];
    free = new_item-row ∷ [];
  }

  abbrev split_atlas : Atlas
  split_atlas = record { limits = a.limits; shelves = back_onto bs (upper ∷ lower ∷ ys); rows = record { shelves = taken shelf_pool; items = taken item_pool } }

  parts_are : record { limits = a.limits; shelves = back_onto bs (upper_part d s ∷ lower_part a.limits a.rows d s ∷ ys); rows = item_taken (shelf_taken a.rows) } ≡ split_atlas
  unfolding upper_part lower_part item_taken shelf_taken
  parts_are = refl

  -- ---- what the step reads

  said : get shelves S s.row ≡ shelf.says (first_row shelf.row bs) s next
  said = shelf_says st a stands bs s ys are

  -- ---- the step

  abbrev h' : Header
  h' = with_pool (taken item_pool) (with_shelf_pool (taken shelf_pool) h)

  abbrev S' : List ℕ
  S' = change shelves (change shelves (put shelves S new_row_of (lower_of (get shelves S s.row) (on_row s.row) d (record { 0 = new_item-row }))) s.row (with_reach d (on_row new_row_of))) next (with_shelf_prev (on_row new_row_of))

  abbrev lone_row : ItemRow
  lone_row = with_generation (new_generation item_pool) (lone_item s.x a.limits.shelf_width (on_row new_row_of))

  abbrev I' : List ℕ
  I' = put items I new_item-row lone_row

  new_row-is : new_shelf h ≡ on_row new_row_of
  new_row-is = new_shelf_lem st a stands shelf-left item-left

  shelf_added : split_shelf_table h S (on_row s.row) (get shelves S s.row) d ≡ S'
  unfolding split_shelf_table add_shelf
  shelf_added = rw (new_row-is, new_item_lem st a stands shelf-left item-left, ap (λ (q : ShelfRow). q.next) said)

  lone_added : add_item I (shelfTakenAt S h) (lone_item (get shelves S s.row).x h.limits.shelf_width (new_shelf h)) ≡ I'
  lone_added =
      item_added st a stands shelf-left item-left _
      ∙ ap (λ (v : ShelfRow). added (lone_item v.x h.limits.shelf_width (new_shelf h))) said
      ∙ ap (λ (w : ℕ). added (lone_item s.x w (new_shelf h))) (shelf_width-is st a stands)
      ∙ ap (λ (n : ShelfIndex). added (lone_item s.x a.limits.shelf_width n)) new_row-is
    where
      added : ItemRow → List ℕ
      added v = put items I new_item-row (with_generation (new_generation item_pool) v)

  split_is : split_shelf st (on_row s.row) (get shelves S s.row) d ≡ state h' S' I'
  unfolding split_shelf
  split_is = cc (both_taken st a stands shelf-left item-left, shelf_added, lone_added)

  -- ---- the shelf chain and the freed shelves

  serves : (r : ℕ) → (r ∈ shelf_rows_of bs) ⊎ (r ∈ shelf_rows_of (s ∷ ys)) → r ∈ shelf_rows_of a.shelves
  serves r o = rw are (in_onto (λ (q : Shelf). q.row ∷ []) r bs (s ∷ ys) o)

  s_in : s.row ∈ shelf_rows_of a.shelves
  s_in = serves s.row (inr (List·Memᴰ·head refl))

  unserved_shelf : Fresh shelf_row_of (rows shelves S) (shelf_rows_of a.shelves) shelf_pool
  unserved_shelf = shelf_is_fresh st a stands shelf-left item-left

  ne_new : (r : ℕ) → r ∈ shelf_rows_of a.shelves → r ≢ new_row_of
  ne_new r m = not_out unserved_shelf.out m

  some : (r : ℕ) → r < rows shelves S → r ≢ no_row
  some r b = omega (arith, rows_few shelves S)

  upper_says : get shelves S s.row ≡ shelf.says (first_row shelf.row bs) s next → with_reach d (on_row new_row_of) (get shelves S s.row) ≡ shelf.says (first_row shelf.row bs) upper new_row_of
  unfolding with_reach with_height with_shelf_next
  upper_says c = rw c

  lower_says : get shelves S s.row ≡ shelf.says (first_row shelf.row bs) s next
      → lower_of (get shelves S s.row) (on_row s.row) d (record { 0 = new_item-row }) ≡ shelf.says s.row lower next
  unfolding lower_of with_y with_height with_shelf_prev with_first_item with_first_free with_empty is_empty_of
  lower_says c = rw c (rw (plus16_is s.y d (omega arith), minus16_is s.depth d within (omega arith)))

  -- the upper part keeps the row, the lower one follows in the new row, and the next shelf names that row as the one before it
  new_chain : Chain shelf (get shelves S') no_row (back_onto bs (upper ∷ lower ∷ ys))
  unfolding with_shelf_prev
  new_chain =
      let n : s.row ≢ new_row_of = ne_new s.row s_in in
      let n' : new_row_of ≢ s.row = λ e. n (sym e) in
      let nn : new_row_of ≢ next = ne_first shelf ys new_row_of (some new_row_of unserved_shelf.there) (λ m. unserved_shelf.out (serves new_row_of (inr (List·Memᴰ·tail m)))) in
      chain_insert shelf (get shelves S) (get shelves S') bs s upper lower ys refl (rw are at sound.shelf_rows.serving_once)
      (λ r m. shelf_some st a stands r (sound.shelf_rows.serving_used r (rw are m)))
      (with_shelf_prev (on_row new_row_of)) (λ x m. refl)
      (λ r m x y. let c : r ≢ new_row_of = ne_new r (rw are m) in simp reads)
      (λ r m x e. let c : r ≢ new_row_of = ne_new r (rw are m) in rw (← e) (simp (reads, shelf_there st a stands r (rw are m))))
      (λ c b. (simp (reads, shelf_there st a stands s.row s_in) (upper_says c), simp (reads, lt-ltb new_row_of (rows shelves S) unserved_shelf.there) (lower_says c)))
      (rw are at stored.shelf_chain)

  new_freed_shelves : Chain freed_shelf (get shelves S') no_row (taken shelf_pool).freed
  new_freed_shelves =
      chain_frame freed_shelf (get shelves S) (get shelves S') no_row (taken shelf_pool).freed
      (λ r m.
      let still : (r ∈ shelf_pool.freed) × (r ≢ new_row_of) = (rw self at (unserved_shelf.kept r m).0, (unserved_shelf.kept r m).1) in
      let idle : (r < shelf_pool.used) × (¬ (r ∈ shelf_rows_of a.shelves)) = (sound.shelf_rows.freed_exactly r).0 still.0 in
      let p : r ≢ new_row_of = still.1 in
      let q : r ≢ s.row = λ e. idle.1 (Memᴰ·cast e s_in) in
      let w : r ≢ next = ne_first shelf ys r (shelf_some st a stands r idle.0) (λ z. idle.1 (serves r (inr (List·Memᴰ·tail z)))) in
      simp reads)
      (taken_chain shelf_row_of (λ r n. freed_shelf_row (record { 0 = n })) (get shelves S) shelf_pool stored.freed_shelves_lem)

  -- ---- the items and the freed items

  unserved_item : Fresh freed_row (rows items I) (all_item_rows a.shelves) item_pool
  unserved_item = item_is_fresh st a stands shelf-left item-left

  item_same : (r : ℕ) → r ≢ new_item-row → get items I' r ≡ get items I r
  item_same r n = simp reads

  item_there : get items I' new_item-row ≡ lone_row
  item_there = simp (reads, lt-ltb new_item-row (rows items I) unserved_item.there)

  parts : Around I bs s ys
  parts = around st a stands bs s ys are

  serving_same : (r : ℕ) → (r ∈ all_item_rows bs) ⊎ (r ∈ all_item_rows (s ∷ ys)) → get items I' r ≡ get items I r
  serving_same r o = item_same r (λ e. unserved_item.out (Memᴰ·cast (sym e) (rw are (in_onto (λ (q : Shelf). item_rows_of q.items) r bs (s ∷ ys) o))))

  lower_holds : Holds I' lower
  unfolding body_lone
  lower_holds = record {
    in_order = (ap body_of item_there ∙ rw body-lone_item, tt);
    free_order = (ap links_of item_there ∙ rw links-lone_item, tt);
    live_unlinked = λ r m. absurd (List·Memᴰ·not-nil m);
  }

  new_items : Each (Holds I') (back_onto bs (upper ∷ lower ∷ ys))
  new_items =
      let o : Holds I' s = holds_frame I I' s parts.listed_here (λ r m. serving_same r (inr (Memᴰ·append-left (all_item_rows ys) m))) parts.held_here in
      each_join (Holds I') bs (upper ∷ lower ∷ ys) (each_holds I I' bs parts.listed_before (λ r m. serving_same r (inl m)) parts.held_before) (
        record { in_order = o.in_order; free_order = o.free_order; live_unlinked = o.live_unlinked },
        (lower_holds, each_holds I I' ys parts.listed_after (λ r m. serving_same r (inr (Memᴰ·append-right (item_rows_of s.items) m))) parts.held_after),
      )

  new_freed_items : Chain freed_item_of (get items I') no_row (taken item_pool).freed
  new_freed_items =
      chain_frame freed_item_of (get items I) (get items I') no_row (taken item_pool).freed (λ r m. item_same r (unserved_item.kept r m).1)
      (taken_chain freed_row (λ f n. freed_item_row (record { 0 = n }) f.generation) (get items I) item_pool stored.freed_items_lem)

  -- ---- the split atlas

  -- both parts are empty, so as much is occupied as before
  new_occupied : h.occupied ≡ occupied (back_onto bs (upper ∷ lower ∷ ys))
  unfolding header_of occupied live_area
  new_occupied =
      let none : (k : Item) (e : ℕ) → k.live ≡ false → live_area e (k ∷ []) ≡ 0 = λ k e f. rw f in
      omega (
        arith,
        ap (λ (q : Header). q.occupied) stored.header ∙ ap occupied are,
        occupied_onto bs (s ∷ ys),
        occupied_onto bs (upper ∷ lower ∷ ys),
        ap (live_area s.depth) lone,
        none its_item s.depth is_free,
        ap (live_area d) lone,
        none its_item d is_free,
      )

  new_lies : Stores h' S' I' split_atlas
  unfolding header_of with_used_items with_free_items with_used_shelves with_free_shelves
  new_lies = record {
    header = cc (stored.header, new_occupied);
    shelf_chain = new_chain;
    shelf_items = new_items;
    freed_shelves_lem = new_freed_shelves;
    freed_items_lem = new_freed_items;
  }

  new_shelf-rows : Shared (taken shelf_pool).used (shelf_rows_of (back_onto bs (upper ∷ lower ∷ ys))) (taken shelf_pool).freed
  new_shelf-rows =
      let (once, to, from) = rows_insert (λ (q : Shelf). q.row ∷ []) bs s upper lower ys new_row_of refl refl (rw are at sound.shelf_rows.serving_once) (rw are at unserved_shelf.out) in
      shelf_shared (shelf_rows_of (back_onto bs (s ∷ ys))) (shelf_rows_of (back_onto bs (upper ∷ lower ∷ ys))) shelf_pool (rw are at sound.shelf_rows) once to from

  new_item-rows : Shared (taken item_pool).used (all_item_rows (back_onto bs (upper ∷ lower ∷ ys))) (freed_rows (taken item_pool).freed)
  new_item-rows =
      let (once, to, from) = rows_insert (λ (q : Shelf). item_rows_of q.items) bs s upper lower ys new_item-row refl refl (rw are at sound.item_rows.serving_once) (rw are at unserved_item.out) in
      taken_shared freed_row (all_item_rows (back_onto bs (s ∷ ys))) (all_item_rows (back_onto bs (upper ∷ lower ∷ ys))) item_pool (rw are at sound.item_rows) once to from

  new_sound : Sound (room_in S' I') split_atlas
  unfolding room_in
  new_sound = record {
    in_room = record { shelves = simp (rows-change, rows-put) unserved_shelf.in_room; items = simp rows-put unserved_item.in_room };
    free_listed = each_join FreeListed bs (upper ∷ lower ∷ ys) parts.listed_before
        (record { once = parts.listed_here.once; only = parts.listed_here.only }, (record { once = (λ m. List·Memᴰ·not-nil m, tt); only = λ r m. m }, parts.listed_after));
    shelf_rows = new_shelf-rows;
    item_rows = new_item-rows;
  }

  -- ---- nothing changes past the rows that are used then

  shelves_stay : Past shelves (taken shelf_pool).used S S'
  shelves_stay =
      let served : (r : ℕ) → r ∈ shelf_rows_of (upper ∷ lower ∷ ys) → r < (taken shelf_pool).used = λ r m. new_shelf-rows.serving_used r (in_onto (λ (q : Shelf). q.row ∷ []) r bs (upper ∷ lower ∷ ys) (inr m)) in
      past_change shelves _ (past_change shelves _ (past_put shelves _ (past_same shelves _ S)
      new_row_of _ (served new_row_of (List·Memᴰ·tail (List·Memᴰ·head refl))))
      s.row _ (inl (served s.row (List·Memᴰ·head refl))))
      next _ (first_used _ ys (λ r m. served r (List·Memᴰ·tail (List·Memᴰ·tail m))))

  items_stay : Past items (taken item_pool).used I I'
  items_stay =
      past_put items _ (past_same items _ I) new_item-row _
      (new_item-rows.serving_used new_item-row (in_onto (λ (q : Shelf). item_rows_of q.items) new_item-row bs (upper ∷ lower ∷ ys) (inr (Memᴰ·append-right (item_rows_of s.items) (List·Memᴰ·head refl)))))

  pub split_leads : Leads st (split_shelf st (on_row s.row) (get shelves S s.row) d)
      (record { limits = a.limits; shelves = back_onto bs (upper_part d s ∷ lower_part a.limits a.rows d s ∷ ys); rows = item_taken (shelf_taken a.rows) })
  split_leads = rw (split_is, parts_are) (record { stands = record { stored = new_lies; sound = new_sound }; shelves_past = shelves_stay; items_past = items_stay })
