-- The numbers after the used rows are never read: tables that agree on their used rows give the same answers, and agree on the used rows
-- after it. They change only when a row is taken into use. Assumes nothing.
use Rattle.std.specs.Prelude.{◌≡◌, ◌≢◌, ◌+◌, ◌^◌, ◌≤◌, ◌<◌}
use Rattle.numbers.specs.Library.{sym, ap, ◌∙◌, List, ℕ, dec_lt, ℕ_discrete, arith, eq-eqb, eqb}
use Rattle.std.proofs.Math.Nat.{mod-le}
use Rattle.numbers.specs.Prelude.{pick, no_row, most_rows}
use Rattle.numbers.specs.declared.{index.ItemIndex.ItemIndex, index.ShelfIndex.ShelfIndex}
use Rattle.rows.specs.declared.{header.Header.Header, item.ItemRow.ItemRow, shelf.ShelfRow.ShelfRow}
use Rattle.rows.specs.Prelude.{Shape, rows, get, put, rows-put, get-put_same, get-put_other, get_out, with_used_items, with_used_shelves, with_free_items}
use Rattle.rows.specs.Prelude.{with_free_shelves, items, shelves, shelf_at_of}
use Rattle.pool.specs.Pool.{one_more_of, new_row, head_after, used_after, new_item, new_generation, add_item, item_taken, added_item, remove_item, new_shelf, add_shelf}
use Rattle.pool.specs.Pool.{shelf_taken, added_shelf, remove_shelf, remove_shelf_item, shelf_freed}
use Rattle.pool.specs.PoolLaws.{new_freed, new_unused, new_used}

-- two tables with as many rows each, the first n of which are the same
pub record Agree {A : Type 0} (s : Shape A) (n : ℕ) (l t : List ℕ) : Type 0 where
  pub as_many : rows s l ≡ rows s t
  pub same : (i : ℕ) → i < n → get s l i ≡ get s t i

module _ {A : Type 0} (s : Shape A) (l t : List ℕ) where
  -- a row stored in both: they agree on it and on what they agreed on
  pub agree_put : (n m i : ℕ) (v : A) → ((j : ℕ) → j < m → j ≢ i → j < n) → Agree s n l t → Agree s m (put s l i v) (put s t i v)
  agree_put n m i v old a = record {
    as_many = rows-put s l i v ∙ a.as_many ∙ sym (rows-put s t i v);
    same = λ j b. go j b (ℕ_discrete j i) (dec_lt i (rows s l));
  } where
    go : (j : ℕ) → j < m → Dec (j ≡ i) → Dec (i < rows s l) → get s (put s l i v) j ≡ get s (put s t i v) j
    go j b (no n) d = get-put_other s l i j v n ∙ a.same j (old j b n) ∙ sym (get-put_other s t i j v n)
    go j b (yes e) (yes h) = rw e (get-put_same s l i v h ∙ sym (get-put_same s t i v (rw (← a.as_many) h)))
    go j b (yes e) (no h) =
        get_out s (put s l i v) j (omega (arith, rows-put s l i v))
        ∙ sym (get_out s (put s t i v) j (omega (arith, rows-put s t i v, a.as_many)))

  -- what is read of the head of the freed chain, where there is one
  head_read : {B : Type 0} (head used : ℕ) (f : A → B) (x : B) → (head ≢ no_row → head < used) → Agree s used l t
      → pick (eqb head no_row) x (f (get s l head)) ≡ pick (eqb head no_row) x (f (get s t head))
  head_read head used f x named a = go (ℕ_discrete head no_row) where
    go : Dec (head ≡ no_row) → pick (eqb head no_row) x (f (get s l head)) ≡ pick (eqb head no_row) x (f (get s t head))
    go (yes e) = rw (eq-eqb head no_row e)
    go (no n) = ap (λ (v : A). pick (eqb head no_row) x (f v)) (a.same head (named n))

-- a used row but the new one was used before
used_but_new : (head used j : ℕ) → j < used_after head used → j ≢ new_row head used → j < used
unfolding one_more_of
used_but_new head used j b n = go (ℕ_discrete head no_row) where
  go : Dec (head ≡ no_row) → j < used
  go (yes e) = omega (arith, n, new_unused head used 0 e, mod-le (used + 1) (2 ^ 16))
  go (no d) = omega (arith, new_freed head used 0 d)

-- a row that is not used even after a row was taken stays as it was; what is left after the last row does too, by `rest_put`
pub unused_stays : {A : Type 0} (s : Shape A) (l : List ℕ) (head used : ℕ) (v : A) (j : ℕ) → (head ≢ no_row → head < used) → used < most_rows
    → used_after head used ≤ j → get s (put s l (new_row head used) v) j ≡ get s l j
unused_stays s l head used v j named few b = get-put_other s l (new_row head used) j v (λ e. omega (arith, new_used head used named few))

module _ (l t : List ℕ) (h : Header) where
  -- the head of the freed items is a used row or none
  module _ (named : h.free_items.0 ≢ no_row → h.free_items.0 < h.used_items) (a : Agree items h.used_items l t) where
    pub unread_added_item : added_item l h ≡ added_item t h
    unfolding added_item item_taken head_after
    unread_added_item = rw (head_read items l t h.free_items.0 h.used_items (λ v. v.next.0) h.free_items.0 named a)

    pub unread_add_item : (v : ItemRow) → Agree items (added_item l h).header.used_items (add_item l h v) (add_item t h v)
    unfolding added_item item_taken add_item new_item new_generation with_used_items with_free_items
    unread_add_item v =
        rw (head_read items l t h.free_items.0 h.used_items (λ v. one_more_of v.generation) 1 named a)
        (agree_put items l t _ _ _ _ (used_but_new h.free_items.0 h.used_items) a)

  pub unread_remove_item : (n : ℕ) (idx : ItemIndex) → idx.0 < n → Agree items n l t → Agree items n (remove_item l h idx) (remove_item t h idx)
  unfolding remove_item
  unread_remove_item n idx b a = rw (a.same idx.0 b) (agree_put items l t n n _ _ (λ j c d. c) a)

  module _ (named : h.free_shelves.0 ≢ no_row → h.free_shelves.0 < h.used_shelves) (a : Agree shelves h.used_shelves l t) where
    pub unread_added_shelf : added_shelf l h ≡ added_shelf t h
    unfolding added_shelf shelf_taken head_after
    unread_added_shelf = rw (head_read shelves l t h.free_shelves.0 h.used_shelves (λ v. v.next.0) h.free_shelves.0 named a)

    pub unread_add_shelf : (v : ShelfRow) → Agree shelves (added_shelf l h).header.used_shelves (add_shelf l h v) (add_shelf t h v)
    unfolding added_shelf shelf_taken add_shelf new_shelf with_used_shelves with_free_shelves
    unread_add_shelf v = agree_put shelves l t _ _ _ _ (used_but_new h.free_shelves.0 h.used_shelves) a

  module _ (n : ℕ) (idx : ShelfIndex) (used : idx.0 < n) (a : Agree shelves n l t) where
    pub unread_shelf_freed : shelf_freed l h idx ≡ shelf_freed t h idx
    unfolding shelf_freed
    unread_shelf_freed = rw (a.same idx.0 used)

    pub unread_remove_shelf : Agree shelves n (remove_shelf l h idx) (remove_shelf t h idx)
    unfolding remove_shelf
    unread_remove_shelf = agree_put shelves l t n n _ _ (λ j c d. c) a

pub unread_remove_shelf_item : (us vs l t : List ℕ) (h : Header) (n m : ℕ) (idx : ShelfIndex) → idx.0 < n → Agree shelves n us vs
    → (shelf_at_of us idx).first_item.0 < m → Agree items m l t → Agree items m (remove_shelf_item us l h idx) (remove_shelf_item vs t h idx)
unfolding remove_shelf_item
unread_remove_shelf_item us vs l t h n m idx b a c d =
    rw (← (a.same idx.0 b)) (unread_remove_item l t h m (shelf_at_of us idx).first_item c d)
