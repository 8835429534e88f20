-- A shelf is opened where an atlas stands, and closed again once its items and its free list are others: the shelf's row and the header are written, and
-- the atlas with that shelf stands. Assumes nothing.
use Rattle.std.specs.Prelude.{◌≡◌, ◌≢◌, ◌∷◌, ◌++◌}
use Rattle.numbers.specs.Library.{ℕ, refl, inl, inr, ⊎_elim, true, List, [], List·Memᴰ·head, Memᴰ·cast, Memᴰ·append-left}
use Rattle.numbers.specs.Library.{Memᴰ·append-right, List·Memᴰ·append-cases, arith, ltb, lt-ltb}
use Rattle.numbers.specs.Prelude.{no_row}
use Rattle.numbers.specs.declared.index.ItemIndex.{ItemIndex}
use Rattle.chains.specs.Prelude.{◌∈◌, Distinct, Apart, back_onto, first_row, first_of}
use Rattle.chains.proofs.Prelude.{distinct_append, distinct_left, distinct_right, distinct_apart, onto_apart, apart_onto, in_onto, onto_in, gather_onto, self}
use Rattle.chains.proofs.Prelude.{each_join, chain_frame, chain_replace}
use Rattle.rows.specs.Prelude.{rows, get, change, rows-change, shelves, with_first_free, with_empty, with_used_items, with_free_items, with_occupied}
use Rattle.rows.specs.declared.header.Header.{Header}
use Rattle.rules.specs.Prelude.{Item, Shelf, Freed, Pool, Atlas, is_empty_of, occupied, holding, shelf, item, freed_shelf, flag, Holds, Stores, header_of, room_in}
use Rattle.rules.specs.Prelude.{shelf_rows_of, item_rows_of, all_item_rows, Sound, FreeListed, Shared}
use Rattle.rules.proofs.Frames.{each_holds}
use Rattle.rows.specs.State.{State, state}
use Rattle.shelf_edits.specs.ShelfEdits.{with_free}
use Rattle.bridge.proofs.Items.RowViews.{reads}
use Rattle.bridge.proofs.Items.PoolRows.{with_pool}
use Rattle.bridge.proofs.Stands.{Stands, Around, around, used_items_lem, used_shelves_lem}
use Rattle.bridge.proofs.Items.OpenShelf.{Open}

-- ---- the rows that serve, in two orders: those of one shelf before all others, and those of the shelves as they follow one another

-- the same rows in another order
pub shared_same : {used : ℕ} {l f : List ℕ} (l' : List ℕ) → Distinct l' → ((r : ℕ) → r ∈ l' → r ∈ l) → ((r : ℕ) → r ∈ l → r ∈ l') → Shared used l f → Shared used l' f
shared_same l' d to from s = record {
  serving_once = d;
  serving_used = λ r m. s.serving_used r (to r m);
  freed_once = s.freed_once;
  freed_exactly = λ r. (λ m. (((s.freed_exactly r).0 m).0, λ k. ((s.freed_exactly r).0 m).1 (to r k)), λ x. (s.freed_exactly r).1 (x.0, λ k. x.1 (from r k)));
}

abbrev of_items : Shelf → List ℕ
of_items q = item_rows_of q.items

-- a shelf's rows and all others', and the rows in the order of the chain
module _ (bs : List Shelf) (s : Shelf) (ys : List Shelf) where
  pub to_chain : (r : ℕ) → r ∈ (item_rows_of s.items ++ (all_item_rows bs ++ all_item_rows ys)) → r ∈ all_item_rows (back_onto bs (s ∷ ys))
  to_chain r m =
      in_onto of_items r bs (s ∷ ys)
      (⊎_elim
      (λ k. inr (Memᴰ·append-left (all_item_rows ys) k))
      (λ k. ⊎_elim (λ q. inl q) (λ q. inr (Memᴰ·append-right (item_rows_of s.items) q)) (List·Memᴰ·append-cases (all_item_rows bs) k))
      (List·Memᴰ·append-cases (item_rows_of s.items) m))

  pub from_chain : (r : ℕ) → r ∈ all_item_rows (back_onto bs (s ∷ ys)) → r ∈ (item_rows_of s.items ++ (all_item_rows bs ++ all_item_rows ys))
  from_chain r m =
      ⊎_elim
      (λ k. Memᴰ·append-right (item_rows_of s.items) (Memᴰ·append-left (all_item_rows ys) k))
      (λ k. ⊎_elim (λ q. Memᴰ·append-left (all_item_rows bs ++ all_item_rows ys) q) (λ q. Memᴰ·append-right (item_rows_of s.items) (Memᴰ·append-right (all_item_rows bs) q)) (List·Memᴰ·append-cases (item_rows_of s.items) k))
      (onto_in of_items r bs (s ∷ ys) m)

  pub chain_once : Distinct (item_rows_of s.items ++ (all_item_rows bs ++ all_item_rows ys)) → Distinct (all_item_rows (back_onto bs (s ∷ ys)))
  chain_once d =
      let others_once : Distinct (all_item_rows bs ++ all_item_rows ys) = distinct_right (item_rows_of s.items) (all_item_rows bs ++ all_item_rows ys) d in
      let own_apart : Apart (item_rows_of s.items) (all_item_rows bs ++ all_item_rows ys) = distinct_apart (item_rows_of s.items) (all_item_rows bs ++ all_item_rows ys) d in
      apart_onto of_items bs (s ∷ ys) (distinct_left (all_item_rows bs) (all_item_rows ys) others_once)
      (distinct_append (item_rows_of s.items) (all_item_rows ys) (distinct_left (item_rows_of s.items) (all_item_rows bs ++ all_item_rows ys) d) (distinct_right (all_item_rows bs) (all_item_rows ys) others_once) (λ r m k. own_apart r m (Memᴰ·append-right (all_item_rows bs) k)))
      (λ r m k. ⊎_elim (λ q. own_apart r q (Memᴰ·append-left (all_item_rows ys) m)) (λ q. distinct_apart (all_item_rows bs) (all_item_rows ys) others_once r m q) (List·Memᴰ·append-cases (item_rows_of s.items) k))

  pub once_chain : Distinct (all_item_rows (back_onto bs (s ∷ ys))) → Distinct (item_rows_of s.items ++ (all_item_rows bs ++ all_item_rows ys))
  once_chain d =
      let (db, dy, apart) = onto_apart of_items bs (s ∷ ys) d in
      let dy' : Distinct (item_rows_of s.items ++ all_item_rows ys) = dy in
      distinct_append (item_rows_of s.items) (all_item_rows bs ++ all_item_rows ys) (distinct_left (item_rows_of s.items) (all_item_rows ys) dy')
      (distinct_append (all_item_rows bs) (all_item_rows ys) db (distinct_right (item_rows_of s.items) (all_item_rows ys) dy') (λ r m k. apart r m (Memᴰ·append-right (item_rows_of s.items) k)))
      (λ r m k. ⊎_elim (λ q. apart r q (Memᴰ·append-left (all_item_rows ys) m)) (λ q. distinct_apart (item_rows_of s.items) (all_item_rows ys) dy' r m q) (List·Memᴰ·append-cases (all_item_rows bs) k))

-- ---- opened and closed

-- the atlas with other items and another free list on the shelf s, and another pool of item rows
abbrev pub reshelved : Atlas → List Shelf → Shelf → List Shelf → Pool Freed → Atlas
reshelved a bs s ys p = record { limits = a.limits; shelves = back_onto bs (s ∷ ys); rows = record { shelves = a.rows.shelves; items = p } }

module _ (st : State) (a : Atlas) (bs : List Shelf) (s : Shelf) (ys : List Shelf) (are : a.shelves ≡ back_onto bs (s ∷ ys)) (stands : Stands st a) where
  abbrev S : List ℕ
  S = st.shelves

  abbrev I : List ℕ
  I = st.items

  abbrev others : List ℕ
  others = all_item_rows bs ++ all_item_rows ys

  parts : Around I bs s ys
  parts = around st a stands bs s ys are

  -- what an opened shelf asks is what stands in the tables, but for the order in which the rows in use are named
  pub open_shelf : Open I I s.row s.items s.free a.rows.items others
  open_shelf = record {
    lie = parts.held_here.in_order;
    list = parts.held_here.free_order;
    live = parts.held_here.live_unlinked;
    free_once = rw self parts.listed_here.once;
    only = λ r m. parts.listed_here.only r (rw self at m);
    freed = stands.stored.freed_items_lem;
    shared = shared_same (item_rows_of s.items ++ others) (once_chain bs s ys (rw are at stands.sound.item_rows.serving_once))
        (λ r m. rw are (to_chain bs s ys r m)) (λ r m. from_chain bs s ys r (rw are at m)) stands.sound.item_rows;
    room = used_items_lem st a stands;
    same = λ r m. refl;
  }

  s_in : s.row ∈ shelf_rows_of a.shelves
  s_in = rw are (in_onto (λ (q : Shelf). q.row ∷ []) s.row bs (s ∷ ys) (inr (List·Memᴰ·head refl)))

  -- the shelf's row is there
  pub shelf_there : ltb s.row (rows shelves S) ≡ true
  shelf_there = lt-ltb s.row (rows shelves S) (omega (arith, stands.sound.shelf_rows.serving_used s.row s_in, used_shelves_lem st a stands))

  module _ (I' : List ℕ) (is : List Item) (free-list : List ℕ) (p : Pool Freed) (opened : Open I I' s.row is free-list p others)
      (first : first_row (item s.row).row is ≡ first_row (item s.row).row s.items)
      (first_free : ItemIndex) (empty-flag : ℕ) (first-free-is : first_free.0 ≡ first_of free-list) (empty-flag-is : empty-flag ≡ flag (is_empty_of is)) where
    -- one shelf row is written; the item rows of the other shelves are as they were, since the shelf was open all along
    close_lies : (h : Header) → h ≡ header_of (reshelved a bs (holding s is free-list) ys p)
        → Stores h (change shelves S s.row (with_free first_free empty-flag)) I' (reshelved a bs (holding s is free-list) ys p)
    unfolding holding with_free with_first_free with_empty
    close_lies h eq = record {
      header = eq;
      shelf_chain = chain_replace shelf (get shelves S) (get shelves (change shelves S s.row (with_free first_free empty-flag))) bs s (holding s is free-list) ys refl
          (rw are at stands.sound.shelf_rows.serving_once) (λ r m n. simp reads)
          (λ c. simp (reads, shelf_there) (rw c (cc (first, first-free-is, empty-flag-is)))) (rw are at stands.stored.shelf_chain);
      shelf_items = each_join (Holds I') bs (holding s is free-list ∷ ys)
          (each_holds I I' bs parts.listed_before (λ r m. opened.same r (Memᴰ·append-left (all_item_rows ys) m)) parts.held_before) (
            record { in_order = opened.lie; free_order = opened.list; live_unlinked = opened.live },
            each_holds I I' ys parts.listed_after (λ r m. opened.same r (Memᴰ·append-right (all_item_rows bs) m)) parts.held_after,
          );
      freed_shelves_lem = chain_frame freed_shelf (get shelves S) (get shelves (change shelves S s.row (with_free first_free empty-flag))) no_row a.rows.shelves.freed
          (λ r m. let n : r ≢ s.row = (λ q. ((stands.sound.shelf_rows.freed_exactly r).0 (rw self at m)).1 (Memᴰ·cast q s_in)) in simp reads) stands.stored.freed_shelves_lem;
      freed_items_lem = opened.freed;
    }

    close_sound : Sound (room_in (change shelves S s.row (with_free first_free empty-flag)) I') (reshelved a bs (holding s is free-list) ys p)
    unfolding room_in holding
    close_sound = record {
      in_room = record { shelves = simp rows-change (used_shelves_lem st a stands); items = opened.room };
      free_listed = each_join FreeListed bs (holding s is free-list ∷ ys) parts.listed_before (record { once = rw self at opened.free_once; only = λ r m. opened.only r (rw self m) }, parts.listed_after);
      shelf_rows = rw (gather_onto (λ (q : Shelf). q.row ∷ []) bs (holding s is free-list ∷ ys) (s ∷ ys) refl) (rw are at stands.sound.shelf_rows);
      item_rows = shared_same (all_item_rows (back_onto bs (holding s is free-list ∷ ys))) (chain_once bs (holding s is free-list) ys opened.shared.serving_once)
          (λ r m. from_chain bs (holding s is free-list) ys r m) (λ r m. to_chain bs (holding s is free-list) ys r m) opened.shared;
    }

    -- the first free item and the empty flag are written into the shelf's row
    pub close_stands : (h : Header) → h ≡ header_of (reshelved a bs (holding s is free-list) ys p)
        → Stands (state h (change shelves S s.row (with_free first_free empty-flag)) I') (reshelved a bs (holding s is free-list) ys p)
    close_stands h eq = record { stored = close_lies h eq; sound = close_sound }

  -- the header that goes with it: other item rows, and another sum
  pub close_header : (s' : Shelf) (p : Pool Freed) (total : ℕ) → total ≡ occupied (back_onto bs (s' ∷ ys))
      → with_occupied total (with_pool p st.header) ≡ header_of (reshelved a bs s' ys p)
  unfolding header_of with_occupied with_used_items with_free_items
  close_header s' p total sum = cc (stands.stored.header, sum)
