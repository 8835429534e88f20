-- An item of an opened shelf split in two: its row keeps the left part, and the rest, free and on no list, is in a new row. `v` is the item's row as it
-- was read. Assumes nothing.
use Rattle.std.specs.Prelude.{◌<◌, ◌≤◌, ◌+◌, ◌-◌, ◌≡◌, ◌≢◌, ◌⊎◌, ◌∷◌, ◌++◌}
use Rattle.numbers.specs.Library.{ℕ, refl, sym, ap, ◌∙◌, inl, inr, ⊎_elim, true, List, List·Memᴰ·tail}
use Rattle.numbers.specs.Library.{List·Memᴰ·append-cases, Memᴰ·cast, Memᴰ·append-left, Memᴰ·append-right, arith, ltb, lt-ltb}
use Rattle.numbers.specs.Prelude.{no_row}
use Rattle.chains.specs.Prelude.{◌∈◌, Distinct, gather, back_onto, first_row, Chain}
use Rattle.chains.proofs.Prelude.{not_out, distinct_append, distinct_right, distinct_apart, in_onto, onto_map, chain_frame, ne_first, chain_insert, rows_insert}
use Rattle.rows.specs.Prelude.{rows, get, put, rows_few, rows-put, change, rows-change, items, with_item_prev, with_generation, body_of, links_of}
use Rattle.pool.specs.Pool.{add_item, freed_item_row}
use Rattle.rows.specs.declared.{header.Header.Header, item.ItemRow.ItemRow}
use Rattle.rules.specs.Prelude.{Item, Freed, Pool, resized, free_item, new_row, new_generation, taken, rows_left_of, item, free, no_links, live_rows, free_rows, freed_item_of, item_rows_of}
use Rattle.rules.specs.Prelude.{freed_rows, Shared}
use Rattle.wrap.specs.Wrap.{plus16_is, minus16_is}
use Rattle.live_rows.specs.Live.{at_row}
use Rattle.item_edits.specs.ItemEdits.{with_span, rest_of, split_item}
use Rattle.bridge.proofs.Items.RowViews.{sights, body_prev, body_span, body_rest, says_prev, says_span, seen_next}
use Rattle.rules.proofs.LiveRows.{live_row}
use Rattle.bridge.proofs.Items.PoolRows.{freed_row, Fresh, fresh, taken_shared, taken_chain, item_new, item_generation}
use Rattle.bridge.proofs.Items.OpenShelf.{Open, once, there, some, used_some, listed, listed_row}
use Rattle.bridge.proofs.Items.MarkItem.{live_of, free_of, row_of, at_in}

module _ {I₀ I : List ℕ} {on : ℕ} {fl : List ℕ} {p : Pool Freed} {others : List ℕ} (ib : List Item) (i : Item) (ia : List Item)
    (o : Open I₀ I on (back_onto ib (i ∷ ia)) fl p others)
    (h : Header) (head : h.free_items.0 ≡ first_row freed_row p.freed) (used : h.used_items ≡ p.used) (left : 0 < rows_left_of (rows items I) p)
    (width : ℕ) (within : width ≤ i.width) (narrow : i.x + i.width ≤ 65535)
    (v : ItemRow) (body-v : body_of v ≡ (item on).says (first_row (item on).row ib) i (first_row (item on).row ia)) where
  abbrev is : List Item
  is = back_onto ib (i ∷ ia)

  abbrev new : ℕ
  new = new_row freed_row p

  -- the two parts
  abbrev pub left_part : Item
  left_part = resized i width i.live

  abbrev pub rest : Item
  rest = free_item new (i.x + width) (i.width - width) (new_generation p)

  abbrev split_items : List Item
  split_items = back_onto ib (left_part ∷ rest ∷ ia)

  unserved : Fresh freed_row (rows items I) (item_rows_of is ++ others) p
  unserved = fresh freed_row (rows items I) (item_rows_of is ++ others) p o.room left o.shared

  new_there : ltb new (rows items I) ≡ true
  new_there = lt-ltb new (rows items I) unserved.there

  new_some : new ≢ no_row
  new_some = omega (arith, unserved.there, rows_few items I)

  pub new_out : new ∈ item_rows_of is → ⊥
  new_out m = unserved.out (Memᴰ·append-left others m)

  next_in : (r : ℕ) → r ∈ item_rows_of ia → r ∈ item_rows_of is
  next_in r m = in_onto row_of r ib (i ∷ ia) (inr (List·Memᴰ·tail m))

  abbrev I' : List ℕ
  I' =
      change items
      (change items (put items I new (with_generation (new_generation p) (rest_of v (at_row i.row) width))) i.row (with_span width (at_row new)))
      (first_row (item on).row ia) (with_item_prev (at_row new))

  split_is : split_item h I (at_row i.row) v width ≡ I'
  unfolding split_item add_item
  split_is =
      rw (
        item_new I h (item_rows_of is ++ others) p head used o.room left o.shared o.freed,
        item_generation I h (item_rows_of is ++ others) p head used o.room left o.shared o.freed,
        seen_next v body-v,
      )

  links_stay : (r : ℕ) → r ≢ new → links_of (get items I' r) ≡ links_of (get items I r)
  links_stay r a = simp sights

  elsewhere : (r : ℕ) → r ≢ no_row → r ≢ new → (r ∈ item_rows_of is → ⊥) → get items I' r ≡ get items I r
  elsewhere r k a out =
      let b : r ≢ i.row = λ e. out (Memᴰ·cast e (at_in ib i ia o)) in
      let c : r ≢ first_row (item on).row ia = ne_first (item on) ia r k (λ m. out (next_in r m)) in
      simp sights

  -- the rows are those that there were, and the new one
  rows_are : Distinct (item_rows_of split_items) × ((r : ℕ) → r ∈ item_rows_of split_items → (r ≡ new) ⊎ (r ∈ item_rows_of is)) × ((r : ℕ) → (r ≡ new) ⊎ (r ∈ item_rows_of is) → r ∈ item_rows_of split_items)
  rows_are = rows_insert row_of ib i left_part rest ia new refl refl (once o) new_out

  split_shared : Shared (taken p).used (item_rows_of split_items ++ others) (freed_rows (taken p).freed)
  split_shared =
      let d : Distinct (item_rows_of is ++ others) = o.shared.serving_once in
      taken_shared freed_row (item_rows_of is ++ others) (item_rows_of split_items ++ others) p o.shared
      (distinct_append (item_rows_of split_items) others rows_are.0 (distinct_right (item_rows_of is) others d)
      (λ r m k. ⊎_elim (λ e. unserved.out (Memᴰ·cast (sym e) (Memᴰ·append-right (item_rows_of is) k))) (λ q. distinct_apart (item_rows_of is) others d r q k) (rows_are.1 r m)))
      (λ r m. ⊎_elim
      (λ k. ⊎_elim (λ e. inl e) (λ q. inr (Memᴰ·append-left others q)) (rows_are.1 r k))
      (λ k. inr (Memᴰ·append-right (item_rows_of is) k))
      (List·Memᴰ·append-cases (item_rows_of split_items) m))
      (λ r w. ⊎_elim
      (λ e. Memᴰ·append-left others (rows_are.2 r (inl e)))
      (λ m. ⊎_elim (λ k. Memᴰ·append-left others (rows_are.2 r (inr k))) (λ k. Memᴰ·append-right (item_rows_of split_items) k) (List·Memᴰ·append-cases (item_rows_of is) m))
      w)

  -- nothing wraps in what the new row says
  rest_says : (prev next : ℕ) → body_rest i.row width (new_generation p) ((item on).says prev i next) ≡ (item on).says i.row rest next
  unfolding body_rest
  rest_says prev next =
      let a : i.x + width < 65536 = omega arith in
      let b : i.width < 65536 = omega arith in
      rw (plus16_is i.x width a, minus16_is i.width width within b)

  -- ---- each part of what it is to be open

  -- the new item follows the left part, and the one after it names the new row as the one before it
  items_lie : Chain (item on) (λ r. body_of (get items I' r)) no_row split_items
  items_lie =
      let at : i.row ∈ item_rows_of is = at_in ib i ia o in
      let ne : i.row ≢ new = not_out new_out at in
      let ne' : new ≢ i.row = λ e. ne (sym e) in
      let nn : new ≢ first_row (item on).row ia = ne_first (item on) ia new new_some (λ m. new_out (next_in new m)) in
      chain_insert (item on) (λ r. body_of (get items I r)) (λ r. body_of (get items I' r)) ib i left_part rest ia refl (once o) (some o)
      (body_prev new) (λ x m. says_prev on _ m x new)
      (λ r m a b. let c : r ≢ new = not_out new_out m in simp sights)
      (λ r m a e. let c : r ≢ new = not_out new_out m in rw (← e) (simp (sights, there o r m)))
      (λ c b. (
        simp (sights, there o i.row at) (ap (body_span width new) c ∙ says_span on _ _ i width new),
        simp (sights, new_there) (ap (body_rest i.row width (new_generation p)) body-v ∙ rest_says _ _),
      ))
      o.lie

  -- no free link of the rows that there were is written
  free_list_lies : Chain free (λ r. links_of (get items I' r)) no_row fl
  free_list_lies = chain_frame free (λ r. links_of (get items I r)) (λ r. links_of (get items I' r)) no_row fl (λ r m. links_stay r (not_out new_out (listed_row o r m))) o.list

  live_unlinked : (r : ℕ) → r ∈ live_rows split_items → links_of (get items I' r) ≡ no_links
  live_unlinked r m =
      let was_live : r ∈ live_rows is = onto_map live_of r ib (left_part ∷ rest ∷ ia) (i ∷ ia) (λ q. q) m in
      links_stay r (not_out new_out (live_row is r was_live)) ∙ o.live r was_live

  only_free : (r : ℕ) → r ∈ listed fl → r ∈ free_rows split_items
  only_free r m =
      onto_map free_of r ib (i ∷ ia) (left_part ∷ rest ∷ ia)
      (λ k. ⊎_elim (λ q. Memᴰ·append-left (new ∷ gather free_of ia) q) (λ q. Memᴰ·append-right (free_of i) (List·Memᴰ·tail q)) (List·Memᴰ·append-cases (free_of i) k)) (o.only r m)

  -- the rows still freed, and those of other shelves, are none of the rows that are written
  freed_lie : Chain freed_item_of (get items I') no_row (taken p).freed
  freed_lie =
      chain_frame freed_item_of (get items I) (get items I') no_row (taken p).freed
      (λ r m.
      let still : (r ∈ freed_rows p.freed) × (r ≢ new) = unserved.kept r m in
      let idle : (r < p.used) × (¬ (r ∈ (item_rows_of is ++ others))) = (o.shared.freed_exactly r).0 still.0 in
      elsewhere r (used_some o r idle.0) still.1 (λ q. idle.1 (Memᴰ·append-left others q)))
      (taken_chain freed_row (λ f next. freed_item_row (record { 0 = next }) f.generation) (get items I) p o.freed)

  others_same : (r : ℕ) → r ∈ others → get items I' r ≡ get items I₀ r
  others_same r m =
      elsewhere r (used_some o r (o.shared.serving_used r (Memᴰ·append-right (item_rows_of is) m))) (λ e. unserved.out (Memᴰ·cast (sym e) (Memᴰ·append-right (item_rows_of is) m)))
      (λ k. distinct_apart (item_rows_of is) others o.shared.serving_once r k m)
      ∙ o.same r m

  -- the new row has the links of the row that was split
  pub new_links : links_of (get items (split_item h I (at_row i.row) v width) new) ≡ links_of v
  new_links =
      let ne : new ≢ i.row = λ e. new_out (Memᴰ·cast e (at_in ib i ia o)) in
      let nn : new ≢ first_row (item on).row ia = ne_first (item on) ia new new_some (λ m. new_out (next_in new m)) in
      rw split_is (simp (sights, new_there))

  pub split_open : Open I₀ (split_item h I (at_row i.row) v width) on split_items fl (taken p) others
  split_open = rw split_is (record {
    lie = items_lie;
    list = free_list_lies;
    live = live_unlinked;
    free_once = o.free_once;
    only = only_free;
    freed = freed_lie;
    shared = split_shared;
    room = simp (rows-change, rows-put) unserved.in_room;
    same = others_same;
  })
