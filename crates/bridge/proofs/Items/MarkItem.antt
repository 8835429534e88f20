-- An item of an opened shelf marked live or free: the shelf stays open, with that item changed. Also what an item's row says there. Assumes nothing.
use Rattle.std.specs.Prelude.{◌≡◌, ◌≢◌, ◌∷◌}
use Rattle.numbers.specs.Library.{ℕ, refl, ap, inr, ⊎_elim, true, false, List, [], List·Memᴰ·head, List·Memᴰ·tail, List·Memᴰ·append-cases}
use Rattle.numbers.specs.Library.{List·Memᴰ·eq-of-singleton, Memᴰ·cast, Memᴰ·append-right, ℕ_discrete}
use Rattle.numbers.specs.Prelude.{pick, no_row}
use Rattle.chains.specs.Prelude.{◌∈◌, gather, back_onto, first_row}
use Rattle.chains.proofs.Prelude.{not_out, in_onto, gather_onto, onto_map, chain_split, chain_frame, chain_replace}
use Rattle.rows.specs.Prelude.{get, change, rows-change, items, body_of, links_of}
use Rattle.rules.specs.Prelude.{Item, Freed, Pool, resized, item, free, no_links, live_rows, item_rows_of}
use Rattle.item_edits.specs.ItemEdits.{mark_live, mark_free}
use Rattle.bridge.proofs.Items.RowViews.{sights, body_mark}
use Rattle.rules.proofs.LiveRows.{a_live, a_free}
use Rattle.bridge.proofs.Items.OpenShelf.{Open, once, there, listed, others_stay}

-- the row of an item, where it is live, where it is free, and in any case
abbrev pub live_of : Item → List ℕ
live_of j = pick j.live (j.row ∷ []) []

abbrev pub free_of : Item → List ℕ
free_of j = pick j.live [] (j.row ∷ [])

abbrev pub row_of : Item → List ℕ
row_of j = j.row ∷ []

-- the item in this row becomes another; what is live or free of the others stays
pub not_here : (f : Item → List ℕ) → ((j : Item) (r : ℕ) → r ∈ f j → r ∈ (j.row ∷ [])) → (r : ℕ) (ib : List Item) (i : Item) (us ia : List Item) → r ≢ i.row
    → ((k : r ∈ gather f ia) → r ∈ gather f us) → r ∈ gather f (back_onto ib (i ∷ ia)) → r ∈ gather f (back_onto ib us)
not_here f h r ib i us ia n to m =
    onto_map f r ib (i ∷ ia) us (λ k. ⊎_elim (λ q. absurd (n (List·Memᴰ·eq-of-singleton (h i r q)))) to (List·Memᴰ·append-cases (f i) k)) m

module _ {I₀ I : List ℕ} {on : ℕ} {fl : List ℕ} {p : Pool Freed} {others : List ℕ} (ib : List Item) (i : Item) (ia : List Item)
    (o : Open I₀ I on (back_onto ib (i ∷ ia)) fl p others) where
  pub at_in : i.row ∈ item_rows_of (back_onto ib (i ∷ ia))
  at_in = in_onto row_of i.row ib (i ∷ ia) (inr (List·Memᴰ·head refl))

  -- what the item's row says but for its free links
  pub body_is : body_of (get items I i.row) ≡ (item on).says (first_row (item on).row ib) i (first_row (item on).row ia)
  body_is = (chain_split (item on) (λ r. body_of (get items I r)) ib (i ∷ ia) o.lie).1.0

  -- a live item has no free links, and may be on no free list
  pub live_open : (i' : Item) → i' ≡ resized i i.width true → (i.row ∈ listed fl → ⊥)
      → Open I₀ (change items I i.row mark_live) on (back_onto ib (i' ∷ ia)) fl p others
  unfolding body_mark
  live_open i' e out =
      let I' : List ℕ = change items I i.row mark_live in
      let marked_item : Item = resized i i.width true in
      let (freed', same') = others_stay o I' (λ r n k. let a : r ≢ i.row = (λ q. k (Memᴰ·cast q at_in)) in simp sights) in
      rw e (record {
        lie = chain_replace (item on) (λ r. body_of (get items I r)) (λ r. body_of (get items I' r)) ib i marked_item ia refl (once o)
            (λ r m n. simp sights) (λ c. simp (sights, there o i.row at_in) (ap (body_mark 1) c)) o.lie;
        list = chain_frame free (λ r. links_of (get items I r)) (λ r. links_of (get items I' r)) no_row fl (λ r m. let a : r ≢ i.row = not_out out m in simp sights) o.list;
        live = λ r m. marked r m (ℕ_discrete r i.row);
        free_once = o.free_once;
        only = λ r m. not_here free_of (λ j r. a_free j.live j.row r) r ib i (marked_item ∷ ia) ia (not_out out m) (λ k. k) (o.only r m);
        freed = freed';
        shared = rw (gather_onto row_of ib (marked_item ∷ ia) (i ∷ ia) refl) o.shared;
        room = rw rows-change o.room;
        same = same';
      })
    where
      marked : (r : ℕ) → r ∈ live_rows (back_onto ib (resized i i.width true ∷ ia)) → Dec (r ≡ i.row)
          → links_of (get items (change items I i.row mark_live) r) ≡ no_links
      marked r m (yes q) = rw q (simp (sights, there o i.row at_in))
      marked r m (no n) = simp sights (o.live r (not_here live_of (λ j r. a_live j.live j.row r) r ib _ (i ∷ ia) ia n (Memᴰ·append-right (live_of i)) m))

  -- the item keeps its links; it is on no free list yet
  pub free_open : (i' : Item) → i' ≡ resized i i.width false
      → Open I₀ (change items I i.row mark_free) on (back_onto ib (i' ∷ ia)) fl p others
  unfolding body_mark
  free_open i' e =
      let I' : List ℕ = change items I i.row mark_free in
      let marked_item : Item = resized i i.width false in
      let (freed', same') = others_stay o I' (λ r n k. let a : r ≢ i.row = (λ q. k (Memᴰ·cast q at_in)) in simp sights) in
      rw e (record {
        lie = chain_replace (item on) (λ r. body_of (get items I r)) (λ r. body_of (get items I' r)) ib i marked_item ia refl (once o)
            (λ r m n. simp sights) (λ c. simp (sights, there o i.row at_in) (ap (body_mark 0) c)) o.lie;
        list = chain_frame free (λ r. links_of (get items I r)) (λ r. links_of (get items I' r)) no_row fl (λ r m. simp sights) o.list;
        live = λ r m. simp sights (o.live r (onto_map live_of r ib (marked_item ∷ ia) (i ∷ ia) (Memᴰ·append-right (live_of i)) m));
        free_once = o.free_once;
        only = λ r m. onto_map free_of r ib (i ∷ ia) (marked_item ∷ ia)
            (λ k. ⊎_elim (λ q. List·Memᴰ·head (List·Memᴰ·eq-of-singleton (a_free i.live i.row r q))) (λ q. List·Memᴰ·tail q) (List·Memᴰ·append-cases (free_of i) k)) (o.only r m);
        freed = freed';
        shared = rw (gather_onto row_of ib (marked_item ∷ ia) (i ∷ ia) refl) o.shared;
        room = rw rows-change o.room;
        same = same';
      })
