-- Loops that count the rows of a chain and ask something of each: a free list, the freed shelf rows, the freed item rows. Assumes nothing.
use Rattle.std.specs.Prelude.{◌≡◌, ◌≢◌, ◌+◌, ◌-◌, ◌≤◌, ◌<◌, Some}
use Rattle.numbers.specs.Library.{List, ℕ, arith, length}
use native.Mathlib.Nat.{sub-zero}
use Rattle.numbers.specs.Prelude.{no_row}
use Rattle.pool.specs.Pool.{FreedShelf, FreedItem}
use Rattle.rows.specs.Prelude.{get, items, shelves}
use Rattle.rows.specs.declared.{header.Header.Header, item.ItemRow.ItemRow, shelf.ShelfRow.ShelfRow}
use Rattle.chains.specs.Prelude.{rows_from, Walk}
use Rattle.rules.specs.Prelude.{free_next, freed_shelves_met, freed_items_met}
use Rattle.audit_counts.specs.Counts.{FreeItem, FreeList, FreeListCounted, FreedShelves, FreedItems}
use Rattle.chains.proofs.Prelude.{Deciding, begins, onward, wrong, no_fuel, outside, unended, Lasting, lasts, lasted, last_ended}

-- ---- any of them

-- The loop in row `cur`: a row is `row r`, it is right if `ok` holds of it and of what is carried, and it names the next by `link`. `A` holds exactly
-- when the rows still to be met are right, and of `n` steps so many are left that `total` rows are met in all.
pub record Counting {σ R : Type 0} (row : ℕ → R) (ok : σ → R → Type 0) (link : R → ℕ) (next : σ → ℕ → σ) (n : ℕ) (A : Type 0) (total cur fuel : ℕ) (s : σ) : Type 0 where
  pub walk : Deciding (λ r. link (row r)) (λ d r. ok d (row r)) next (λ last. Unit {0}) n A cur fuel s
  pub count : Lasting (λ r. link (row r)) n total cur fuel
  pub rows_most : n ≤ no_row
  pub fuel_most : fuel ≤ n

module _ {σ R : Type 0} {row : ℕ → R} {ok : σ → R → Type 0} {link : R → ℕ} {next : σ → ℕ → σ} {n : ℕ} where
  pub counting_begins : {cur : ℕ} {s : σ} → n ≤ no_row
      → Counting row ok link next n (Walk (λ r. link (row r)) (λ d r. ok d (row r)) next (λ last. Unit {0}) n cur s) (length (rows_from (λ r. link (row r)) n cur)) cur n s
  counting_begins b = record { walk = begins b; count = lasts; rows_most = b; fuel_most = omega arith }

  module _ {A : Type 0} {total cur fuel : ℕ} {s : σ} (w : Counting row ok link next n A total cur fuel s) where
    pub all_right : cur ≡ no_row → A
    all_right e = unended w.walk w.rows_most e tt

    pub there : cur < n → cur ≢ no_row
    there u e = omega (arith, w.rows_most)

    module _ (ne : cur ≢ no_row) where
      pub no_steps : fuel ≡ 0 → A → ⊥
      no_steps z = no_fuel w.walk ne z

      pub no_row_lem : n ≤ cur → A → ⊥
      no_row_lem o = outside w.walk ne o

      module _ (i : R) (e : i ≡ row cur) where
        pub wrong_row : (ok s i → ⊥) → A → ⊥
        wrong_row no' a = wrong w.walk ne (λ o. no' (rw e o)) a

        pub past_row : {left : ℕ} → left + 1 ≡ fuel → cur < n → ok s i → Counting row ok link next n A total (link i) left (next s cur)
        past_row {left} f u o =
            let one : fuel - 1 ≡ left = omega arith in
            let some : 1 ≤ fuel = omega arith in
            rw (e, ← one) (record {
              walk = onward w.walk ne some u (rw e at o);
              count = lasted w.count ne some;
              rows_most = w.rows_most;
              fuel_most = omega (arith, w.fuel_most);
            })

-- ---- what is told at the end

pub told : {σ R : Type 0} {row : ℕ → R} {ok : σ → R → Type 0} {link : R → ℕ} {next : σ → ℕ → σ} {n : ℕ} {A : Type 0} {total cur fuel count : ℕ} {s : σ}
    → Counting row ok link next n A total cur fuel s → cur ≡ no_row → fuel + count ≡ n → A × (count ≡ total)
told w stop e = (all_right w stop, omega (arith, last_ended w.count stop))

-- ---- a free list

abbrev pub AtFree : Header → List ℕ → ℕ → ℕ → ℕ → ℕ → ℕ → Type 0
AtFree h I on first cur fuel prev =
    Counting (get items I) (FreeItem on) (λ (i : ItemRow). i.next_unallocated.0) (λ (prev : ℕ) r. r) h.used_items
    (FreeList h I on first) (length (rows_from (free_next I) h.used_items first)) cur fuel prev

pub free_begins : (h : Header) (I : List ℕ) (on first : ℕ) → h.used_items ≤ no_row → AtFree h I on first first (h.used_items - 0) no_row
unfolding FreeList
free_begins h I on first b = rw (sub-zero h.used_items) (counting_begins b)

pub free_told : (h : Header) (I : List ℕ) (on first : ℕ) {cur fuel prev count : ℕ} → AtFree h I on first cur fuel prev → cur ≡ no_row
    → fuel + count ≡ h.used_items → FreeListCounted h I on first (Some count)
free_told h I on first w stop e = let all = told w stop e in (all.0, (all.1, omega (arith, w.rows_most)))

-- ---- the freed shelf rows

abbrev pub AtFreedShelf : Header → List ℕ → ℕ → ℕ → Type 0
AtFreedShelf h S cur fuel =
    Counting (get shelves S) (λ (u : Unit {0}). FreedShelf) (λ (s : ShelfRow). s.next.0) (λ (u : Unit {0}) r. u) h.used_shelves
    (FreedShelves h S) (length (freed_shelves_met h S)) cur fuel tt

pub freed_shelves_begin : (h : Header) (S : List ℕ) → h.used_shelves ≤ no_row → AtFreedShelf h S h.free_shelves.0 (h.used_shelves - 0)
unfolding FreedShelves freed_shelves_met
freed_shelves_begin h S b = rw (sub-zero h.used_shelves) (counting_begins b)

-- ---- the freed item rows

abbrev pub AtFreedItem : Header → List ℕ → ℕ → ℕ → Type 0
AtFreedItem h I cur fuel =
    Counting (get items I) (λ (u : Unit {0}). FreedItem) (λ (i : ItemRow). i.next.0) (λ (u : Unit {0}) r. u) h.used_items
    (FreedItems h I) (length (freed_items_met h I)) cur fuel tt

pub freed_items_begin : (h : Header) (I : List ℕ) → h.used_items ≤ no_row → AtFreedItem h I h.free_items.0 (h.used_items - 0)
unfolding FreedItems freed_items_met
freed_items_begin h I b = rw (sub-zero h.used_items) (counting_begins b)
