-- What a grant and a release do to an opened shelf, composed of the edits of the item table: an item granted whole, its left part granted, an item made
-- free, put on the free list, and joined with a neighbour. Assumes nothing.
use Rattle.std.specs.Prelude.{◌<◌, ◌≤◌, ◌+◌, ◌≡◌, ◌∷◌, ◌++◌}
use Rattle.numbers.specs.Library.{ℕ, refl, sym, inr, ⊎_elim, true, false, List, [], List·Memᴰ·head, List·Memᴰ·cases-cons}
use Rattle.numbers.specs.Library.{Memᴰ·cast, Memᴰ·append-right}
use Rattle.chains.specs.Prelude.{◌∈◌, back_onto, first_row, first_of}
use Rattle.chains.proofs.Prelude.{onto_apart, in_onto, onto_in}
use Rattle.rows.specs.Prelude.{rows, change, items, body_of, links_of}
use Rattle.plan.specs.declared.Plan.{Plan}
use Rattle.rows.specs.declared.header.Header.{Header}
use Rattle.rules.specs.Prelude.{Item, Freed, Pool, Rows, resized, new_row, taken, rows_left_of, new_item_row, granted_item, rest_of, freeing, free_with, item, item_rows_of}
use Rattle.live_rows.specs.Live.{at_row}
use Rattle.item_edits.specs.ItemEdits.{mark_live, mark_free, split_item, join_next, unlist, relist, enlist}
use Rattle.grant.specs.Grant.{take_part_items, take_whole_items}
use Rattle.rules.proofs.LiveRows.{live_free}
use Rattle.bridge.proofs.Items.PoolRows.{freed_row, item_new}
use Rattle.bridge.proofs.Items.OpenShelf.{Open, once, listed, listed_row, unlist_row_open, unlist_open, relist_open, enlist_open}
use Rattle.bridge.proofs.Items.MarkItem.{live_of, free_of, at_in, live_open, free_open}
use Rattle.bridge.proofs.Items.Split.{split_open, new_out, new_links}
use Rattle.bridge.proofs.Items.JoinNext.{join_open}

abbrev one : ℕ → List ℕ
one r = r ∷ []

-- ---- a grant

module _ {I₀ I : List ℕ} {on : ℕ} {others : List ℕ} (r : Rows) (ib : List Item) (i : Item) (ia : List Item) (fb fa : List ℕ)
    (o : Open I₀ I on (back_onto ib (i ∷ ia)) (back_onto fb (i.row ∷ fa)) r.items others)
    (p : Plan) (at_i : p.item ≡ at_row i.row) (links-i : links_of p.item_row ≡ record { prev = first_of fb; next = first_of fa }) where
  -- the whole item
  pub whole_open : Open I₀ (take_whole_items I p) on (back_onto ib (granted_item i i.width ∷ ia)) (back_onto fb fa) r.items others
  unfolding take_whole_items granted_item
  whole_open =
      let (once-before, once-from, apart) = onto_apart one fb (i.row ∷ fa) o.free_once in
      rw at_i (live_open ib i ia (unlist_row_open fb i.row fa o p.item_row links-i) (granted_item i i.width) refl
      (λ m. ⊎_elim (λ k. apart i.row k (List·Memᴰ·head refl)) once-from.0 (onto_in one i.row fb fa m)))

  -- the left part of it
  module _ (h : Header) (head : h.free_items.0 ≡ first_row freed_row r.items.freed) (used : h.used_items ≡ r.items.used)
      (left : 0 < rows_left_of (rows items I) r.items) (width : ℕ) (is-width : p.width ≡ width) (within : width ≤ i.width) (narrow : i.x + i.width ≤ 65535)
      (body-i : body_of p.item_row ≡ (item on).says (first_row (item on).row ib) i (first_row (item on).row ia)) where
    part_is : take_part_items h I p
        ≡ change items (relist (split_item h I (at_row i.row) p.item_row width) p.item_row (at_row (new_row freed_row r.items))) i.row mark_live
    unfolding take_part_items
    part_is = rw (item_new I h (item_rows_of (back_onto ib (i ∷ ia)) ++ others) r.items head used o.room left o.shared o.freed, at_i, is-width)

    pub part_open : Open I₀ (take_part_items h I p) on (back_onto ib (granted_item i width ∷ rest_of r i width ∷ ia)) (back_onto fb (new_item_row r ∷ fa)) (taken r.items) others
    unfolding granted_item rest_of new_item_row
    part_open =
        let (once-before, once-from, apart) = onto_apart one fb (i.row ∷ fa) o.free_once in
        let new : ℕ = new_row freed_row r.items in
        let left_part : Item = resized i width i.live in
        let rest : Item = rest_of r i width in
        let new_unused : new ∈ item_rows_of (back_onto ib (i ∷ ia)) → ⊥ = new_out ib i ia o h head used left width within narrow p.item_row body-i in
        rw part_is
        (live_open ib left_part (rest ∷ ia)
        (relist_open fb i.row fa (split_open ib i ia o h head used left width within narrow p.item_row body-i) p.item_row links-i new
        (in_onto free_of new ib (left_part ∷ rest ∷ ia) (inr (Memᴰ·append-right (free_of i) (List·Memᴰ·head refl))))
        (λ m. new_unused (listed_row o new m))
        (new_links ib i ia o h head used left width within narrow p.item_row body-i))
        (granted_item i width) refl
        (λ m. ⊎_elim
        (λ k. apart i.row k (List·Memᴰ·head refl))
        (λ k. ⊎_elim (λ e. new_unused (Memᴰ·cast (sym e) (at_in ib i ia o))) once-from.0 (List·Memᴰ·cases-cons k))
        (onto_in one i.row fb (new ∷ fa) m)))

-- ---- a release

module _ {I₀ I : List ℕ} {on : ℕ} {fl : List ℕ} {p : Pool Freed} {others : List ℕ} (ib : List Item) (i : Item) (ia : List Item)
    (o : Open I₀ I on (back_onto ib (i ∷ ia)) fl p others) where
  -- the item is free, and on no list yet
  pub freed_open : i.live ≡ true → Open I₀ (change items I i.row mark_free) on (back_onto ib (free_with i i.width ∷ ia)) fl p others × (i.row ∈ listed fl → ⊥)
  unfolding free_with
  freed_open e = (
    free_open ib i ia o (free_with i i.width) refl,
    λ m. live_free (back_onto ib (i ∷ ia)) (once o) i.row (in_onto live_of i.row ib (i ∷ ia) (inr (rw e (List·Memᴰ·head refl)))) (o.only i.row m),
  )

  -- it goes to the front of the free list
  pub push_open : i.live ≡ false → (i.row ∈ listed fl → ⊥) → Open I₀ (enlist I (at_row (first_of fl)) (at_row i.row)) on (back_onto ib (i ∷ ia)) (i.row ∷ fl) p others
  push_open e out = enlist_open o i.row (in_onto free_of i.row ib (i ∷ ia) (inr (rw e (List·Memᴰ·head refl)))) out

-- a free next item merged into it
pub next_open : {I₀ I : List ℕ} {on : ℕ} {p : Pool Freed} {others : List ℕ} (ib : List Item) (i next-item : Item) (ia : List Item) (fb fa : List ℕ)
    → Open I₀ I on (back_onto ib (free_with i i.width ∷ next-item ∷ ia)) (back_onto fb (next-item.row ∷ fa)) p others
    → (h : Header) → h.free_items.0 ≡ first_row freed_row p.freed → i.width + next-item.width ≤ 65535
    → Open I₀ (join_next h (unlist I (at_row next-item.row)) (at_row i.row)) on (back_onto ib (free_with i (i.width + next-item.width) ∷ ia)) (back_onto fb fa)
    (freeing (record { row = next-item.row; generation = next-item.generation }) p) others
unfolding free_with
next_open ib i next-item ia fb fa o h head narrow =
    let (once-before, once-from, apart) = onto_apart one fb (next-item.row ∷ fa) o.free_once in
    join_open ib (free_with i i.width) next-item ia (unlist_open fb next-item.row fa o)
    (λ m. ⊎_elim (λ k. apart next-item.row k (List·Memᴰ·head refl)) once-from.0 (onto_in one next-item.row fb fa m)) h head narrow

-- it is merged into a free previous item
pub into_open : {I₀ I : List ℕ} {on : ℕ} {fl : List ℕ} {p : Pool Freed} {others : List ℕ} (ib : List Item) (previous i : Item) (ia : List Item)
    → Open I₀ I on (back_onto ib (previous ∷ i ∷ ia)) fl p others → previous.live ≡ false → (i.row ∈ listed fl → ⊥)
    → (h : Header) → h.free_items.0 ≡ first_row freed_row p.freed → previous.width + i.width ≤ 65535
    → Open I₀ (join_next h I (at_row previous.row)) on (back_onto ib (free_with previous (previous.width + i.width) ∷ ia)) fl (freeing (record { row = i.row; generation = i.generation }) p) others
unfolding free_with
into_open ib previous i ia o e out h head narrow = rw e at (join_open ib previous i ia o out h head narrow)
