-- One shelf opened: its items and free list lie in the item table, the freed rows too, and every other row is as it was in a table I₀. Each edit of an
-- item table leads from one such state to another; here are the edits of the free list, `unlist`, `relist` and `enlist`. Assumes nothing.
use Rattle.std.specs.Prelude.{◌<◌, ◌≤◌, ◌≡◌, ◌≢◌, ◌⊎◌, ◌∷◌, ◌++◌}
use Rattle.numbers.specs.Library.{ℕ, refl, sym, ap, ◌∙◌, inl, inr, ⊎_elim, true, List, [], List·Memᴰ·tail}
use Rattle.numbers.specs.Library.{List·Memᴰ·cases-cons, Memᴰ·cast, Memᴰ·append-left, Memᴰ·append-right, arith, ltb, lt-ltb}
use Rattle.numbers.specs.Prelude.{no_row}
use Rattle.chains.specs.Prelude.{◌∈◌, Distinct, gather, back_onto, first_of, Chain}
use Rattle.chains.proofs.Prelude.{not_out, distinct_left, distinct_apart, onto_apart, apart_onto, in_onto, onto_in, chain_split, chain_frame, relink_after}
use Rattle.chains.proofs.Prelude.{ne_first, chain_swap, chain_remove}
use Rattle.rows.specs.Prelude.{rows, get, rows_few, change, rows-change, items, with_prev_free, with_next_free, body_of, links_of}
use Rattle.rules.specs.Prelude.{Item, Freed, Pool, item, free, no_links, live_rows, free_rows, freed_item_of, item_rows_of, freed_rows, Shared}
use Rattle.rows.specs.declared.item.ItemRow.{ItemRow}
use Rattle.live_rows.specs.Live.{at_row}
use Rattle.item_edits.specs.ItemEdits.{with_links, unlist_row, unlist, relist, enlist}
use Rattle.bridge.proofs.Items.RowViews.{sights, links_prev, links_next, links, seen_prev_free, seen_next_free}
use Rattle.rules.proofs.LiveRows.{live_row, free_row, live_free}

-- a list of rows, as the chain of a free list has them
abbrev pub listed : List ℕ → List ℕ
listed = gather (λ r. r ∷ [])

-- Shelf `on` opened: items `is` and free list `fl` lie in table I, each row once, with the pool p of freed rows; `others` are the rows of all
-- other shelves.
pub record Open (I₀ I : List ℕ) (on : ℕ) (is : List Item) (fl : List ℕ) (p : Pool Freed) (others : List ℕ) : Type 0 where
  pub lie : Chain (item on) (λ r. body_of (get items I r)) no_row is
  pub list : Chain free (λ r. links_of (get items I r)) no_row fl
  pub live : (r : ℕ) → r ∈ live_rows is → links_of (get items I r) ≡ no_links
  pub free_once : Distinct (listed fl)
  pub only : (r : ℕ) → r ∈ listed fl → r ∈ free_rows is
  pub freed : Chain freed_item_of (get items I) no_row p.freed
  pub shared : Shared p.used (item_rows_of is ++ others) (freed_rows p.freed)
  pub room : p.used ≤ rows items I
  pub same : (r : ℕ) → r ∈ others → get items I r ≡ get items I₀ r

module _ {I₀ I : List ℕ} {on : ℕ} {is : List Item} {fl : List ℕ} {p : Pool Freed} {others : List ℕ} (o : Open I₀ I on is fl p others) where
  pub once : Distinct (item_rows_of is)
  once = distinct_left (item_rows_of is) others o.shared.serving_once

  pub used_there : (r : ℕ) → r < p.used → ltb r (rows items I) ≡ true
  used_there r b = lt-ltb r (rows items I) (omega (arith, o.room))

  pub used_some : (r : ℕ) → r < p.used → r ≢ no_row
  used_some r b = omega (arith, o.room, rows_few items I)

  pub there : (r : ℕ) → r ∈ item_rows_of is → ltb r (rows items I) ≡ true
  there r m = used_there r (o.shared.serving_used r (Memᴰ·append-left others m))

  pub some : (r : ℕ) → r ∈ item_rows_of is → r ≢ no_row
  some r m = used_some r (o.shared.serving_used r (Memᴰ·append-left others m))

  pub listed_row : (r : ℕ) → r ∈ listed fl → r ∈ item_rows_of is
  listed_row r m = free_row is r (o.only r m)

  -- a change that touches only this shelf's rows leaves the freed rows and the others
  pub others_stay : (I' : List ℕ) → ((r : ℕ) → r ≢ no_row → (r ∈ item_rows_of is → ⊥) → get items I' r ≡ get items I r)
      → Chain freed_item_of (get items I') no_row p.freed × ((r : ℕ) → r ∈ others → get items I' r ≡ get items I₀ r)
  others_stay I' h = (
    chain_frame freed_item_of (get items I) (get items I') no_row p.freed
        (λ r m.
        let x : (r < p.used) × (¬ (r ∈ (item_rows_of is ++ others))) = (o.shared.freed_exactly r).0 m in
        h r (used_some r x.0) (λ k. x.1 (Memᴰ·append-left others k)))
        o.freed,
    λ r m. h r (used_some r (o.shared.serving_used r (Memᴰ·append-right (item_rows_of is) m))) (λ k. distinct_apart (item_rows_of is) others o.shared.serving_once r k m) ∙ o.same r m,
  )

  -- a change of free items' links alone
  relisted : (I' fl' : List ℕ) → rows items I' ≡ rows items I → ((r : ℕ) → body_of (get items I' r) ≡ body_of (get items I r))
      → ((r : ℕ) → r ≢ no_row → (r ∈ free_rows is → ⊥) → get items I' r ≡ get items I r)
      → Chain free (λ r. links_of (get items I' r)) no_row fl' → Distinct (listed fl') → ((r : ℕ) → r ∈ listed fl' → r ∈ free_rows is)
      → Open I₀ I' on is fl' p others
  relisted I' fl' e body elsewhere list once' only' =
      let (freed', same') = others_stay I' (λ r n out. elsewhere r n (λ m. out (free_row is r m))) in
      record {
        lie = chain_frame (item on) (λ r. body_of (get items I r)) (λ r. body_of (get items I' r)) no_row is (λ r m. body r) o.lie;
        list = list;
        live = λ r m. ap links_of (elsewhere r (some r (live_row is r m)) (live_free is once r m)) ∙ o.live r m;
        free_once = once';
        only = only';
        freed = freed';
        shared = o.shared;
        room = rw e o.room;
        same = same';
      }

module _ {I₀ I : List ℕ} {on : ℕ} {is : List Item} {q : Pool Freed} {others : List ℕ} (fb : List ℕ) (row : ℕ) (fa : List ℕ)
    (o : Open I₀ I on is (back_onto fb (row ∷ fa)) q others) where
  abbrev prev : ℕ
  prev = first_of fb

  abbrev next : ℕ
  next = first_of fa

  abbrev one : ℕ → List ℕ
  one r = r ∷ []

  -- a row that is no free item's is neither of the rows around this one in the free list
  unlisted : (r : ℕ) → r ≢ no_row → (r ∈ free_rows is → ⊥) → (r ≢ prev) × (r ≢ next)
  unlisted r k out =
      let known : (r ∈ listed fb) ⊎ (r ∈ listed (row ∷ fa)) → r ∈ free_rows is = λ w. o.only r (in_onto one r fb (row ∷ fa) w) in
      (ne_first free fb r k (λ m. out (known (inl m))), ne_first free fa r k (λ m. out (known (inr (List·Memᴰ·tail m)))))

  -- what the free links of the row say
  pub links_are : links_of (get items I row) ≡ record { prev = prev; next = next }
  links_are = (chain_split free (λ r. links_of (get items I r)) fb (row ∷ fa) o.list).1.0

  listed_some : (r : ℕ) → r ∈ listed (back_onto fb (row ∷ fa)) → r ≢ no_row
  listed_some r m = some o r (listed_row o r m)

  listed_there : (r : ℕ) → r ∈ listed (back_onto fb (row ∷ fa)) → ltb r (rows items I) ≡ true
  listed_there r m = there o r (listed_row o r m)

  -- the row taken out: the rows before and after it are linked with each other
  abbrev after_unlist : List ℕ
  after_unlist = change items (change items I prev (with_next_free (at_row next))) next (with_prev_free (at_row prev))

  -- by a row that has its links
  unlist_is : (v : ItemRow) → links_of v ≡ record { prev = prev; next = next } → unlist_row I v ≡ after_unlist
  unfolding unlist_row
  unlist_is v links-v = rw (seen_prev_free v links-v, seen_next_free v links-v)

  pub unlist_row_open : (v : ItemRow) → links_of v ≡ record { prev = prev; next = next } → Open I₀ (unlist_row I v) on is (back_onto fb fa) q others
  unfolding links_prev links_next
  unlist_row_open v links-v =
      let (once-before, once-from, apart) = onto_apart one fb (row ∷ fa) o.free_once in
      rw (unlist_is v links-v)
      (relisted o after_unlist (back_onto fb fa) (simp rows-change) (λ r. simp sights) (λ r k out. let (a, b) = unlisted r k out in simp sights)
      (chain_remove free (λ r. links_of (get items I r)) (λ r. links_of (get items after_unlist r)) fb row fa o.free_once listed_some
      (links_next next) (links_prev prev) (λ m y. refl) (λ y m. refl)
      (λ r m a b c. simp sights)
      (λ r m a e c. rw (← e) (simp (sights, listed_there r m)))
      (λ r m a b e. rw (← e) (simp (sights, listed_there r m)))
      o.list)
      (apart_onto one fb fa once-before once-from.1 (λ r m k. apart r m (List·Memᴰ·tail k)))
      (λ r m. o.only r (in_onto one r fb (row ∷ fa) (⊎_elim (λ k. inl k) (λ k. inr (List·Memᴰ·tail k)) (onto_in one r fb fa m)))))

  pub unlist_open : Open I₀ (unlist I (at_row row)) on is (back_onto fb fa) q others
  unfolding unlist
  unlist_open = unlist_row_open (get items I row) links_are

  -- a new row that has its links in its place
  module _ (v : ItemRow) (links-v : links_of v ≡ record { prev = prev; next = next })
      (new : ℕ) (new-free : new ∈ free_rows is) (new_out : new ∈ listed (back_onto fb (row ∷ fa)) → ⊥) (new_links : links_of (get items I new) ≡ links_of v) where
    abbrev after_relist : List ℕ
    after_relist = change items (change items I prev (with_next_free (at_row new))) next (with_prev_free (at_row new))

    relist_is : relist I v (at_row new) ≡ after_relist
    unfolding relist
    relist_is = rw (seen_prev_free v links-v, seen_next_free v links-v)

    pub relist_open : Open I₀ (relist I v (at_row new)) on is (back_onto fb (new ∷ fa)) q others
    unfolding links_prev links_next
    relist_open =
        let (once-before, once-from, apart) = onto_apart one fb (row ∷ fa) o.free_once in
        let in_before : (r : ℕ) → r ∈ listed fb → r ∈ listed (back_onto fb (row ∷ fa)) = λ r m. in_onto one r fb (row ∷ fa) (inl m) in
        let in_after : (r : ℕ) → r ∈ listed fa → r ∈ listed (back_onto fb (row ∷ fa)) = λ r m. in_onto one r fb (row ∷ fa) (inr (List·Memᴰ·tail m)) in
        let new_row_of : new ∈ item_rows_of is = free_row is new new-free in
        let new_prev : new ≢ prev = ne_first free fb new (some o new new_row_of) (λ m. new_out (in_before new m)) in
        let new_next : new ≢ next = ne_first free fa new (some o new new_row_of) (λ m. new_out (in_after new m)) in
        rw relist_is
        (relisted o after_relist (back_onto fb (new ∷ fa)) (simp rows-change) (λ r. simp sights)
        (λ r k out. let (a, b) = unlisted r k out in let c : r ≢ new = (λ e. out (Memᴰ·cast e new-free)) in simp sights)
        (chain_swap free (λ r. links_of (get items I r)) (λ r. links_of (get items after_relist r)) fb row new fa o.free_once listed_some
        (links_next new) (links_prev new) (λ m z. refl) (λ z m. refl)
        (λ r m a b c. let d : r ≢ new = not_out new_out m in simp sights)
        (λ r m a e c. let d : r ≢ new = not_out new_out m in rw (← e) (simp (sights, listed_there r m)))
        (λ r m a b e. let d : r ≢ new = not_out new_out m in rw (← e) (simp (sights, listed_there r m)))
        (λ c. simp sights (new_links ∙ links-v))
        o.list)
        (apart_onto one fb (new ∷ fa) once-before (λ m. new_out (in_after new m), once-from.1)
        (λ r m k. ⊎_elim (λ e. new_out (Memᴰ·cast (sym e) (in_before r m))) (λ w. apart r m (List·Memᴰ·tail w)) (List·Memᴰ·cases-cons k)))
        (λ r m. ⊎_elim (λ k. o.only r (in_before r k)) (λ k. ⊎_elim (λ e. Memᴰ·cast e new-free) (λ w. o.only r (in_after r w)) (List·Memᴰ·cases-cons k)) (onto_in one r fb (new ∷ fa) m)))

-- a new row put in front of the free list
module _ {I₀ I : List ℕ} {on : ℕ} {is : List Item} {fl : List ℕ} {p : Pool Freed} {others : List ℕ}
    (o : Open I₀ I on is fl p others) (new : ℕ) (new-free : new ∈ free_rows is) (new_out : new ∈ listed fl → ⊥) where
  pub enlist_open : Open I₀ (enlist I (at_row (first_of fl)) (at_row new)) on is (new ∷ fl) p others
  unfolding enlist links_prev links
  enlist_open =
      let first : ℕ = first_of fl in
      let after_enlist : List ℕ = change items (change items I first (with_prev_free (at_row new))) new (with_links (at_row no_row) (at_row first)) in
      let new_row_of : new ∈ item_rows_of is = free_row is new new-free in
      relisted o after_enlist (new ∷ fl) (simp rows-change) (λ r. simp sights)
      (λ r k out. let a : r ≢ new = (λ e. out (Memᴰ·cast e new-free)) in let b : r ≢ first = ne_first free fl r k (λ m. out (o.only r m)) in simp sights) (
        simp (sights, there o new new_row_of),
        relink_after free (λ r. links_of (get items I r)) (λ r. links_of (get items after_enlist r)) no_row new (links_prev new) (λ z m. refl) fl o.free_once
            (λ r m e. let d : r ≢ new = not_out new_out m in rw (← e) (simp (sights, there o r (listed_row o r m))))
            (λ r m k. let d : r ≢ new = not_out new_out m in simp sights)
            o.list,
      )
      (new_out, o.free_once)
      (λ r m. ⊎_elim (λ e. Memᴰ·cast e new-free) (o.only r) (List·Memᴰ·cases-cons m))
