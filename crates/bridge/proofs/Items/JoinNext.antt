-- The next item of an opened shelf joined to one: the first grows by the width of the second, whose row is freed. The shelf stays open. Assumes nothing.
use Rattle.std.specs.Prelude.{◌<◌, ◌≤◌, ◌+◌, ◌≡◌, ◌≢◌, ◌∷◌, ◌++◌}
use Rattle.numbers.specs.Library.{ℕ, refl, sym, ap, ◌∙◌, inr, ⊎_elim, List, List·Memᴰ·head, List·Memᴰ·tail}
use Rattle.numbers.specs.Library.{List·Memᴰ·append-cases, List·Memᴰ·eq-of-singleton, Memᴰ·cast, Memᴰ·append-left, Memᴰ·append-right, arith}
use Rattle.numbers.specs.Prelude.{no_row}
use Rattle.chains.specs.Prelude.{◌∈◌, Distinct, gather, back_onto, first_row, Chain}
use Rattle.chains.proofs.Prelude.{not_out, distinct_append, distinct_right, distinct_apart, onto_apart, in_onto, onto_map, chain_any, chain_frame, ne_first}
use Rattle.chains.proofs.Prelude.{chain_drop, rows_drop}
use Rattle.rows.specs.Prelude.{get, put, rows-put, change, rows-change, items, with_item_prev, body_of, links_of}
use Rattle.pool.specs.Pool.{remove_item, freed_item_row}
use Rattle.rows.specs.declared.header.Header.{Header}
use Rattle.rules.specs.Prelude.{Item, Freed, Pool, resized, freeing, item, free, no_links, live_rows, free_rows, freed_item_of, item_rows_of, freed_rows, Shared}
use Rattle.wrap.specs.Wrap.{plus16_is}
use Rattle.live_rows.specs.Live.{at_row}
use Rattle.item_edits.specs.ItemEdits.{with_span, join_next}
use Rattle.bridge.proofs.Items.RowViews.{sights, body_prev, body_span, says_prev, says_span, seen_next, seen_width, seen_generation}
use Rattle.rules.proofs.LiveRows.{a_free, live_row}
use Rattle.bridge.proofs.Items.PoolRows.{freed_row, freed_shared}
use Rattle.bridge.proofs.Items.OpenShelf.{Open, once, there, some, listed, others_stay}
use Rattle.bridge.proofs.Items.MarkItem.{live_of, free_of, row_of, at_in, body_is}

module _ {I₀ I : List ℕ} {on : ℕ} {fl : List ℕ} {p : Pool Freed} {others : List ℕ} (ib : List Item) (item-kept item-joined : Item) (later : List Item)
    (o : Open I₀ I on (back_onto ib (item-kept ∷ item-joined ∷ later)) fl p others) (joined-unlisted : item-joined.row ∈ listed fl → ⊥)
    (h : Header) (head : h.free_items.0 ≡ first_row freed_row p.freed) (narrow : item-kept.width + item-joined.width ≤ 65535) where
  abbrev was : List Item
  was = back_onto ib (item-kept ∷ item-joined ∷ later)

  abbrev grown : Item
  grown = resized item-kept (item-kept.width + item-joined.width) item-kept.live

  abbrev now : List Item
  now = back_onto ib (grown ∷ later)

  abbrev below : ℕ
  below = first_row (item on).row later

  kept_in : item-kept.row ∈ item_rows_of was
  kept_in = at_in ib item-kept (item-joined ∷ later) o

  joined_in : item-joined.row ∈ item_rows_of was
  joined_in = at_in (item-kept ∷ ib) item-joined later o

  later_in : (r : ℕ) → r ∈ item_rows_of later → r ∈ item_rows_of was
  later_in r m = in_onto row_of r ib (item-kept ∷ item-joined ∷ later) (inr (List·Memᴰ·tail (List·Memᴰ·tail m)))

  joined_kept : item-joined.row ≢ item-kept.row
  joined_kept q = (onto_apart row_of ib (item-kept ∷ item-joined ∷ later) (once o)).1.0 (List·Memᴰ·head (sym q))

  joined_below : item-joined.row ≢ below
  joined_below = ne_first (item on) later item-joined.row (some o item-joined.row joined_in) (onto_apart row_of ib (item-kept ∷ item-joined ∷ later) (once o)).1.1.0

  abbrev joined : List ℕ
  joined = change items (change items I item-kept.row (with_span (item-kept.width + item-joined.width) (at_row below))) below (with_item_prev (at_row item-kept.row))

  abbrev after : List ℕ
  after = put items joined item-joined.row (freed_item_row (at_row (first_row freed_row p.freed)) item-joined.generation)

  generation_kept : (get items joined item-joined.row).generation ≡ item-joined.generation
  generation_kept =
      let a : item-joined.row ≢ item-kept.row = joined_kept in
      let b : item-joined.row ≢ below = joined_below in
      simp sights (seen_generation (get items I item-joined.row) (body_is (item-kept ∷ ib) item-joined later o))

  join_is : join_next h I (at_row item-kept.row) ≡ after
  unfolding join_next remove_item
  join_is =
      let small : item-kept.width + item-joined.width < 65536 = omega arith in
      let eq : h.free_items ≡ at_row (first_row freed_row p.freed) = ap at_row head in
      rw (
        seen_next (get items I item-kept.row) (body_is ib item-kept (item-joined ∷ later) o),
        seen_width (get items I item-kept.row) (body_is ib item-kept (item-joined ∷ later) o),
        seen_next (get items I item-joined.row) (body_is (item-kept ∷ ib) item-joined later o),
        seen_width (get items I item-joined.row) (body_is (item-kept ∷ ib) item-joined later o),
        plus16_is item-kept.width item-joined.width small,
        generation_kept,
        eq,
      )

  kept_links : (r : ℕ) → r ≢ item-joined.row → links_of (get items after r) ≡ links_of (get items I r)
  kept_links r a = simp sights

  away : (r : ℕ) → r ≢ no_row → (r ∈ item_rows_of was → ⊥) → get items after r ≡ get items I r
  away r k out =
      let a : r ≢ item-kept.row = λ q. out (Memᴰ·cast q kept_in) in
      let b : r ≢ item-joined.row = λ q. out (Memᴰ·cast q joined_in) in
      let c : r ≢ below = ne_first (item on) later r k (λ m. out (later_in r m)) in
      simp sights

  dropped : Distinct (item_rows_of now) × (item-joined.row ∈ item_rows_of was) × ((r : ℕ) → r ∈ item_rows_of now → (r ∈ item_rows_of was) × (r ≢ item-joined.row)) × ((r : ℕ) → r ∈ item_rows_of was → r ≢ item-joined.row → r ∈ item_rows_of now)
  dropped = rows_drop row_of ib item-kept grown item-joined later item-joined.row refl refl (once o)

  join_shared : Shared p.used (item_rows_of now ++ others) (item-joined.row ∷ freed_rows p.freed)
  join_shared =
      let d : Distinct (item_rows_of was ++ others) = o.shared.serving_once in
      freed_shared p.used (item_rows_of was ++ others) (item_rows_of now ++ others) (freed_rows p.freed) item-joined.row o.shared (Memᴰ·append-left others joined_in)
      (distinct_append (item_rows_of now) others dropped.0 (distinct_right (item_rows_of was) others d) (λ r m k. distinct_apart (item_rows_of was) others d r (dropped.2 r m).0 k))
      (λ r m. ⊎_elim
      (λ k. (Memᴰ·append-left others (dropped.2 r k).0, (dropped.2 r k).1))
      (λ k. (Memᴰ·append-right (item_rows_of was) k, λ q. distinct_apart (item_rows_of was) others d r (Memᴰ·cast q joined_in) k))
      (List·Memᴰ·append-cases (item_rows_of now) m))
      (λ r m k. ⊎_elim (λ q. Memᴰ·append-left others (dropped.3 r q k)) (λ q. Memᴰ·append-right (item_rows_of now) q) (List·Memᴰ·append-cases (item_rows_of was) m))

  -- ---- each part of what it is to be open

  -- the item after the two names the row that is kept as the one before it
  items_lie : Chain (item on) (λ r. body_of (get items after r)) no_row now
  items_lie =
      chain_drop (item on) (λ r. body_of (get items I r)) (λ r. body_of (get items after r)) ib item-kept grown item-joined later refl (once o) (some o)
      (body_prev item-kept.row) (λ x m. says_prev on _ m x item-kept.row)
      (λ r m a b c. simp sights)
      (λ r m a b q. rw (← q) (simp (sights, there o r m)))
      (λ says-kept says-joined a b. simp (sights, there o item-kept.row kept_in) (ap (body_span (item-kept.width + item-joined.width) below) says-kept ∙ says_span on _ _ item-kept (item-kept.width + item-joined.width) below))
      o.lie

  live_unlinked : (r : ℕ) → r ∈ live_rows now → links_of (get items after r) ≡ no_links
  live_unlinked r m =
      let was_live : r ∈ live_rows was = onto_map live_of r ib (grown ∷ later) (item-kept ∷ item-joined ∷ later)
      (λ q. ⊎_elim (λ z. Memᴰ·append-left (gather live_of (item-joined ∷ later)) z) (λ z. Memᴰ·append-right (live_of item-kept) (Memᴰ·append-right (live_of item-joined) z)) (List·Memᴰ·append-cases (live_of item-kept) q)) m in
      kept_links r (dropped.2 r (live_row now r m)).1 ∙ o.live r was_live

  -- the item that is joined was on no list
  only_free : (r : ℕ) → r ∈ listed fl → r ∈ free_rows now
  only_free r m =
      let not_joined : r ∈ free_of item-joined → r ∈ gather free_of later = λ u. absurd (joined-unlisted (Memᴰ·cast (sym (List·Memᴰ·eq-of-singleton (a_free item-joined.live item-joined.row r u))) m)) in
      onto_map free_of r ib (item-kept ∷ item-joined ∷ later) (grown ∷ later)
      (λ q. ⊎_elim
      (λ z. Memᴰ·append-left (gather free_of later) z)
      (λ z. Memᴰ·append-right (free_of item-kept) (⊎_elim not_joined (λ u. u) (List·Memᴰ·append-cases (free_of item-joined) z)))
      (List·Memᴰ·append-cases (free_of item-kept) q)) (o.only r m)

  pub join_open : Open I₀ (join_next h I (at_row item-kept.row)) on now fl (freeing (record { row = item-joined.row; generation = item-joined.generation }) p) others
  unfolding freeing
  join_open =
      let (freed_lie, others_same) = others_stay o after away in
      rw join_is (record {
        lie = items_lie;
        list = chain_frame free (λ r. links_of (get items I r)) (λ r. links_of (get items after r)) no_row fl (λ r m. kept_links r (not_out joined-unlisted m)) o.list;
        live = live_unlinked;
        free_once = o.free_once;
        only = only_free;
        freed = (simp (sights, there o item-joined.row joined_in), chain_any freed_item_of (λ x y f n. refl) (get items after) no_row item-joined.row p.freed freed_lie);
        shared = join_shared;
        room = simp (rows-change, rows-put) o.room;
        same = others_same;
      })
