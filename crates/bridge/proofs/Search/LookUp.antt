-- Look-up: an id names a live item of the tables exactly when it names one of the atlas, the answer tells the same of both, and each row that is
-- read for it is there. Assumes nothing.
use Rattle.std.specs.Prelude.{◌≤◌, ◌<◌, ◌≡◌, ◌&&◌, ◌∷◌}
use Rattle.std.proofs.Math.Bool.{and_comm}
use Rattle.numbers.specs.Library.{ℕ, refl, sym, ap, ◌∙◌, inr, ⊎_elim, true, false, Option, none, some, List, [], List·Memᴰ·head}
use Rattle.numbers.specs.Library.{List·Memᴰ·not-nil, List·Memᴰ·cases-cons, Memᴰ·append-left, dec_lt, ℕ_discrete, arith, eqb, eq-eqb, ne_eqb, lt-ltb, le-ltb}
use Rattle.numbers.specs.Prelude.{pick, no_row, both}
use Rattle.rows.specs.Prelude.{rows, get, items, with_item_next, with_generation, shelves, Body, body_of}
use Rattle.pool.specs.Pool.{freed_item_row}
use Rattle.rows.specs.declared.{header.Header.Header, item.ItemRow.ItemRow}
use Rattle.chains.specs.Prelude.{◌∈◌, Each, first_row, Chain}
use Rattle.chains.proofs.Prelude.{chain_split, each_split, in_onto}
use Rattle.rules.specs.Prelude.{Item, Shelf, Freed, Atlas, live_of, Found, find, names, find_live, flag, item, shelf, freed_item_of, Holds, Stores, header_of, room_in}
use Rattle.rules.specs.Prelude.{item_rows_of, all_item_rows, freed_rows, WellFormed, Sound}
use Rattle.laws.proofs.Shape.Around.{pick_cases}
use Rattle.laws.proofs.Shape.Finding.{FoundAt, find_at}
use Rattle.wrap.specs.Wrap.{plus16_is}
use Rattle.live_rows.specs.Live as table
use Rattle.bridge.proofs.Items.NoWrap.{NarrowShelf, shelf_narrow, item_narrow}
use Rattle.rules.proofs.Flags.{flag_one}

-- a row of a chain of freed rows is not live
freed_idle : (I : List ℕ) (p : ℕ) (fi : List Freed) → Chain freed_item_of (get items I) p fi → (r : ℕ) → r ∈ freed_rows fi → (get items I r).allocated ≡ 0
unfolding freed_item_row with_item_next with_generation
freed_idle I p [] c r m = absurd (List·Memᴰ·not-nil m)
freed_idle I p (f ∷ fi) c r m =
    ⊎_elim (λ e. rw e (ap (λ (v : ItemRow). v.allocated) c.0)) (freed_idle I f.row fi c.1 r) (List·Memᴰ·cases-cons m)

module _ (h : Header) (S I : List ℕ) (a : Atlas) (stored : Stores h S I a) (sound : Sound (room_in S I) a) where
  -- the row of an item where it stands, and that of its shelf
  pub item_says : (spot : Found) → FoundAt spot.item.this.row a.shelves a.shelves (some spot)
      → body_of (get items I spot.item.this.row) ≡ (item spot.shelf.this.row).says (first_row (item 0).row spot.item.before) spot.item.this (first_row (item 0).row spot.item.after)
  item_says spot found =
      let holds : Each (Holds I) (spot.shelf.this ∷ spot.shelf.after) = (each_split (Holds I) spot.shelf.before (spot.shelf.this ∷ spot.shelf.after) (rw found.0 at stored.shelf_items)).1 in
      (chain_split (item spot.shelf.this.row) (λ r. body_of (get items I r)) spot.item.before (spot.item.this ∷ spot.item.after) (rw found.1 at holds.0.in_order)).1.0

  pub shelf_says : (spot : Found) → (row : ℕ) → FoundAt row a.shelves a.shelves (some spot)
      → get shelves S spot.shelf.this.row ≡ shelf.says (first_row shelf.row spot.shelf.before) spot.shelf.this (first_row shelf.row spot.shelf.after)
  shelf_says spot row found =
      (chain_split shelf (get shelves S) spot.shelf.before (spot.shelf.this ∷ spot.shelf.after) (rw found.0 at stored.shelf_chain)).1.0

  -- a used row on no shelf is not live
  pub idle : (r : ℕ) → r < a.rows.items.used → (r ∈ all_item_rows a.shelves → ⊥) → (get items I r).allocated ≡ 0
  idle r used out = freed_idle I no_row a.rows.items.freed stored.freed_items_lem r ((sound.item_rows.freed_exactly r).1 (used, out))

eqb_sym : (m n : ℕ) → eqb m n ≡ eqb n m
eqb_sym m n = elim (ℕ_discrete m n) [ yes e ↦ eq-eqb m n e ∙ sym (eq-eqb n m (sym e)) | no d ↦ ne_eqb m n d ∙ sym (ne_eqb n m (λ e. d (sym e))) ]

module _ (h : Header) (S I : List ℕ) (a : Atlas) (stored : Stores h S I a) (formed : WellFormed (room_in S I) a) where
  -- what the tables say of an item that is found
  pub told : (spot : Found) (row : ℕ) → FoundAt row a.shelves a.shelves (some spot) → table.live_at h S I row ≡ live_of a.limits spot.shelf.this spot.item.this
  unfolding table.live_at table.live_of_rows live_of header_of body_of
  told spot row found =
      let i : Item = spot.item.this in
      let s : Shelf = spot.shelf.this in
      let here : FoundAt i.row a.shelves a.shelves (some spot) = (found.0, found.1, refl) in
      let body = item_says h S I a stored formed.sound spot here in
      let narrow : NarrowShelf s = shelf_narrow a formed.shaped spot.shelf.before s spot.shelf.after found.0 in
      rw (
        sym found.2,
        stored.header,
        ap (λ (b : Body). b.shelf) body,
        shelf_says h S I a stored formed.sound spot i.row here,
        ap (λ (b : Body). b.x) body,
        ap (λ (b : Body). b.width) body,
        ap (λ (b : Body). b.generation) body,
        plus16_is i.x i.width (omega (arith, item_narrow s narrow spot.item.before i spot.item.after found.1)),
        plus16_is s.y s.depth (omega (arith, narrow.reach)),
      )

  pub used_is : h.used_items ≡ a.rows.items.used
  unfolding header_of
  used_is = ap (λ (q : Header). q.used_items) stored.header

  pub found_used : (spot : Found) (row : ℕ) → FoundAt row a.shelves a.shelves (some spot) → row < a.rows.items.used
  found_used spot row found =
      let mine : row ∈ item_rows_of spot.shelf.this.items =
      rw found.1 (in_onto (λ (i : Item). i.row ∷ []) row spot.item.before (spot.item.this ∷ spot.item.after) (inr (List·Memᴰ·head (sym found.2)))) in
      formed.sound.item_rows.serving_used row
      (rw found.0 (in_onto (λ (s : Shelf). item_rows_of s.items) row spot.shelf.before (spot.shelf.this ∷ spot.shelf.after) (inr (Memᴰ·append-left (all_item_rows spot.shelf.after) mine))))

  -- the shelf that an item's row names is the one on which it is found, and that is in use
  shelf_used : (spot : Found) (row : ℕ) → FoundAt row a.shelves a.shelves (some spot) → (get items I row).shelf.0 < a.rows.shelves.used
  unfolding body_of
  shelf_used spot row found =
      let on : ℕ = spot.shelf.this.row in
      let named : (get items I row).shelf.0 ≡ on = rw (sym found.2) (ap (λ (b : Body). b.shelf) (item_says h S I a stored formed.sound spot (found.0, found.1, refl))) in
      rw named (formed.sound.shelf_rows.serving_used on
      (rw found.0 (in_onto (λ (s : Shelf). s.row ∷ []) on spot.shelf.before (spot.shelf.this ∷ spot.shelf.after) (inr (List·Memᴰ·head refl)))))

  -- the flag of a row is that of its item
  pub allocated_says : (spot : Found) (row : ℕ) → FoundAt row a.shelves a.shelves (some spot) → (get items I row).allocated ≡ flag spot.item.this.live
  unfolding body_of
  allocated_says spot row found = rw (sym found.2) (ap (λ (b : Body). b.allocated) (item_says h S I a stored formed.sound spot (found.0, found.1, refl)))

  -- a row that serves is in use; its flag and its generation are the item's
  live_same : (spot : Found) (row generation : ℕ) → FoundAt row a.shelves a.shelves (some spot) → table.is_live_of h I row generation ≡ names row generation spot.item.this
  unfolding table.is_live_of names body_of
  live_same spot row generation found =
      let i : Item = spot.item.this in
      let body = item_says h S I a stored formed.sound spot (found.0, found.1, refl) in
      let g : (get items I row).generation ≡ i.generation = rw (sym found.2) (ap (λ (b : Body). b.generation) body) in
      rw (used_is, lt-ltb row a.rows.items.used (found_used spot row found), allocated_says spot row found, g, flag_one i.live, eq-eqb row i.row (sym found.2), eqb_sym generation i.generation)
      (and_comm i.live (eqb i.generation generation))

  dead : (row generation : ℕ) → row < a.rows.items.used → (row ∈ all_item_rows a.shelves → ⊥) → table.is_live_of h I row generation ≡ false
  unfolding table.is_live_of
  dead row generation b out = rw (used_is, lt-ltb row a.rows.items.used b, idle h S I a stored formed.sound row b out)

  unused : (row generation : ℕ) → a.rows.items.used ≤ row → table.is_live_of h I row generation ≡ false
  unfolding table.is_live_of
  unused row generation b = rw (used_is, le-ltb row a.rows.items.used b)

  named_live : (row generation : ℕ) (spot : Found) → names row generation spot.item.this ≡ true → spot.item.this.live ≡ true
  unfolding names
  named_live row generation spot e =
      (both (eqb row spot.item.this.row && eqb generation spot.item.this.generation) spot.item.this.live e).1

  -- the id names no live item, or this one
  abbrev pub LiveSays : ℕ → ℕ → Option Found → Type 0
  LiveSays row generation none = table.is_live_of h I row generation ≡ false
  LiveSays row generation (some spot) = (table.is_live_of h I row generation ≡ true) × FoundAt row a.shelves a.shelves (some spot) × (spot.item.this.live ≡ true)

  -- a row that serves is tested as its item is; any other is freed, or not in use at all
  pub live_says : (row generation : ℕ) → LiveSays row generation (find_live a row generation)
  unfolding find_live
  live_says row generation = go (find row [] a.shelves) (find_at row [] a.shelves) where
    go : (o : Option Found) → FoundAt row a.shelves a.shelves o → LiveSays row generation (elim o [ none ↦ none | some spot ↦ pick (names row generation spot.item.this) (some spot) none ])
    go none out = elim (dec_lt row a.rows.items.used) [ yes b ↦ dead row generation b out | no b ↦ unused row generation (omega arith) ]
    go (some spot) found =
        pick_cases (LiveSays row generation) (names row generation spot.item.this) (some spot) none
        (λ e. (live_same spot row generation found ∙ e, found, named_live row generation spot e)) (λ e. live_same spot row generation found ∙ e)

  -- a used row that is live is on a shelf
  pub rows_there : table.LiveRowsThere h S I
  unfolding room_in
  rows_there = record {
    used_there = omega (arith, used_is, formed.sound.in_room.items);
    shelf_there = λ r b live. go r (omega (arith, used_is)) live (find r [] a.shelves) (find_at r [] a.shelves);
  } where
    go : (r : ℕ) → r < a.rows.items.used → (get items I r).allocated ≡ 1 → (o : Option Found) → FoundAt r a.shelves a.shelves o → (get items I r).shelf.0 < rows shelves S
    go r b live none out = absurd (omega (arith, live, idle h S I a stored formed.sound r b out))
    go r b live (some spot) found = omega (arith, shelf_used spot r found, formed.sound.in_room.shelves)
