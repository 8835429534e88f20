-- Links that lead to the first n rows of the item table only, or to none. What is written into such a table along such links leaves it such a one,
-- and changes none of the rows after the first n. Assumes nothing.
use Rattle.std.specs.Prelude.{◌≤◌, ◌<◌, ◌≡◌, ◌≢◌, ◌⊎◌}
use Rattle.numbers.specs.Library.{ℕ, inl, inr, ⊎_elim, List, ℕ_discrete, arith}
use Rattle.numbers.specs.Prelude.{no_row}
use Rattle.rows.specs.declared.item.ItemRow.{ItemRow}
use Rattle.rows.specs.Row.{rows, get, put, rows-put, get-put_same, get-put_other, get_none, put_none}
use Rattle.rows.specs.Change.{change, change-is}
use Rattle.rows.specs.Past.{Past, past_same, past_put, past_more}
use Rattle.rows.specs.Item.{items}

-- one of the first n rows, or no row
abbrev pub Below : ℕ → ℕ → Type 0
Below n r = (r < n) ⊎ (r ≡ no_row)

pub below_more : (m n r : ℕ) → m ≤ n → Below m r → Below n r
below_more m n r b = ⊎_elim (λ c. inl (omega arith)) (λ e. inr e)

pub below_some : {n r : ℕ} → Below n r → r ≢ no_row → r < n
below_some b k = ⊎_elim (λ c. c) (λ e. absurd (k e)) b

-- a row that links to such rows only
pub record Linked (n : ℕ) (v : ItemRow) : Type 0 where
  pub prev : Below n v.prev.0
  pub next : Below n v.next.0
  pub prev_free : Below n v.prev_unallocated.0
  pub next_free : Below n v.next_unallocated.0

-- The table I, which was I₀: the first n rows link among themselves, and all later ones are as they were.
pub record LinksWithin (n : ℕ) (I₀ I : List ℕ) : Type 0 where
  pub past : Past items n I₀ I
  pub some : 0 < n
  pub room : n ≤ rows items I
  pub linked : (r : ℕ) → r < n → Linked n (get items I r)

module _ {n : ℕ} {I₀ I : List ℕ} (w : LinksWithin n I₀ I) where
  -- a row is linked wherever a link leads: no row holds zeros
  pub linked-at : (r : ℕ) → Below n r → Linked n (get items I r)
  unfolding items
  linked-at r = ⊎_elim (w.linked r) (λ e. rw (← get_none items I r e) (record { prev = inl w.some; next = inl w.some; prev_free = inl w.some; next_free = inl w.some }))

  pub within-put : (i : ℕ) (v : ItemRow) → Below n i → Linked n v → LinksWithin n I₀ (put items I i v)
  within-put i v b l = ⊎_elim there (λ e. rw (← put_none items I i v e) w) b where
    there : i < n → LinksWithin n I₀ (put items I i v)
    there c = record {
      past = past_put items n w.past i v c;
      some = w.some;
      room = rw rows-put w.room;
      linked = λ r d. go r d (ℕ_discrete r i);
    } where
      go : (r : ℕ) → r < n → Dec (r ≡ i) → Linked n (get items (put items I i v) r)
      go r d (yes e) = rw (e, get-put_same items I i v (omega (arith, w.room))) l
      go r d (no k) = rw (get-put_other items I i r v k) (w.linked r d)

  pub within-change : (i : ℕ) (f : ItemRow → ItemRow) → Below n i → ((v : ItemRow) → Linked n v → Linked n (f v)) → LinksWithin n I₀ (change items I i f)
  within-change i f b keep = rw change-is (within-put i (f (get items I i)) b (keep (get items I i) (linked-at i b)))

-- ---- more rows

pub linked_more : (m n : ℕ) (v : ItemRow) → m ≤ n → Linked m v → Linked n v
linked_more m n v b l = record {
  prev = below_more m n _ b l.prev;
  next = below_more m n _ b l.next;
  prev_free = below_more m n _ b l.prev_free;
  next_free = below_more m n _ b l.next_free;
}

-- n rows are in use once row i is taken
pub within_new : {m : ℕ} {I₀ I : List ℕ} (w : LinksWithin m I₀ I) (n i : ℕ) (v : ItemRow) → m ≤ n → n ≤ rows items I → i < n → ((r : ℕ) → r < n → (r ≡ i) ⊎ (r < m)) → Linked n v
    → LinksWithin n I₀ (put items I i v)
within_new {m} {I₀} {I} w n i v more room there cover l = record {
  past = past_put items n (past_more items n more w.past) i v there;
  some = omega arith;
  room = rw rows-put room;
  linked = λ r d. go r (ℕ_discrete r i) (cover r d);
} where
  go : (r : ℕ) → Dec (r ≡ i) → (r ≡ i) ⊎ (r < m) → Linked n (get items (put items I i v) r)
  go r (yes e) o = rw (e, get-put_same items I i v (omega arith)) l
  go r (no k) o = rw (get-put_other items I i r v k) (⊎_elim (λ e. absurd (k e)) (λ b. linked_more m n (get items I r) more (w.linked r b)) o)

-- ---- as the code asks for it: the rows that the table has, and no later row changed yet

module _ {n : ℕ} {I₀ I : List ℕ} (w : LinksWithin n I₀ I) where
  pub within_again : LinksWithin n I I
  within_again = record { past = past_same items n I; some = w.some; room = w.room; linked = w.linked }

  pub below_there : (r : ℕ) → Below n r → Below (rows items I) r
  below_there r = below_more n (rows items I) r w.room

  pub linked_there : (r : ℕ) → Below n r → Linked (rows items I) (get items I r)
  linked_there r b = linked_more n (rows items I) (get items I r) w.room (linked-at w r b)
