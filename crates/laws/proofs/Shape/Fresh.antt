-- A fresh atlas keeps the rules. Assumes nothing.
use Rattle.std.specs.Prelude.{◌<◌, ◌≤◌, ◌+◌, ◌*◌, ◌≡◌, ◌∷◌}
use Rattle.numbers.specs.Library.{ℕ, zero, suc, refl, ⊎_elim, List, [], List·Memᴰ·head, List·Memᴰ·tail, List·Memᴰ·not-nil}
use Rattle.numbers.specs.Library.{List·Memᴰ·cases-cons, ℕ_discrete, suc-mul, le-div_iff_mul-le, add-one, arith, eq-eqb, ne_eqb}
use Rattle.numbers.specs.declared.limits.Limits.{Limits}
use Rattle.numbers.specs.Prelude.{columns, WithinLimits}
use Rattle.chains.specs.Prelude.{◌∈◌, Distinct, Each, Neighbours, gather, first_row}
use Rattle.rules.specs.Prelude.{Shelf, Room, is_empty_of, fresh_shelf, fresh_shelves, fresh, joins, Stacked, Filled, NotBothEmpty, item_rows_of, FreeListed, Shared}
use Rattle.rules.specs.Prelude.{Sound, Shaped}
use Rattle.laws.proofs.Shape.Geometry.{Right, shaped}

-- ---- its rows

module _ (l : Limits) where
  -- the rows of n fresh shelves from k on are k to k + n - 1
  module _ (f : Shelf → List ℕ) (is : (k : ℕ) → f (fresh_shelf l k) ≡ k ∷ []) where
    within-rows : (k n r : ℕ) → r ∈ gather f (fresh_shelves l k n) → (k ≤ r) × (r < k + n)
    unfolding fresh_shelves
    within-rows k zero r m = absurd (List·Memᴰ·not-nil m)
    within-rows k (suc n) r m =
        ⊎_elim (λ e. (omega arith, omega arith)) (λ q. let w : (suc k ≤ r) × (r < suc k + n) = within-rows (suc k) n r q in (omega arith, omega arith)) (List·Memᴰ·cases-cons (rw (is k) at m))

    all_rows : (k n r : ℕ) → k ≤ r → r < k + n → r ∈ gather f (fresh_shelves l k n)
    unfolding fresh_shelves
    all_rows k zero r a b = absurd (omega arith)
    all_rows k (suc n) r a b = rw (is k) (go (ℕ_discrete r k) (all_rows (suc k) n r)) where
      go : Dec (r ≡ k) → (suc k ≤ r → r < suc k + n → r ∈ gather f (fresh_shelves l (suc k) n)) → r ∈ (k ∷ gather f (fresh_shelves l (suc k) n))
      go (yes e) ih = List·Memᴰ·head e
      go (no d) ih = List·Memᴰ·tail (ih (omega arith) (omega arith))

    once : (k n : ℕ) → Distinct (gather f (fresh_shelves l k n))
    unfolding fresh_shelves
    once k zero = tt
    once k (suc n) = rw (is k) (λ m. let w : (suc k ≤ k) × (k < suc k + n) = within-rows (suc k) n k m in omega arith, once (suc k) n)

    fresh_shared : (n : ℕ) → Shared n (gather f (fresh_shelves l 0 n)) []
    fresh_shared n = record {
      serving_once = once 0 n;
      serving_used = λ r m. let w : (0 ≤ r) × (r < 0 + n) = within-rows 0 n r m in omega arith;
      freed_once = tt;
      freed_exactly = λ r. (λ m. absurd (List·Memᴰ·not-nil m), λ x. absurd (x.1 (all_rows 0 n r (omega arith) (omega (arith, x.0)))));
    }

  fresh_listed : (k n : ℕ) → Each FreeListed (fresh_shelves l k n)
  unfolding fresh_shelves fresh_shelf
  fresh_listed k zero = tt
  fresh_listed k (suc n) = (record { once = (λ m. List·Memᴰ·not-nil m, tt); only = λ r m. m }, fresh_listed (suc k) n)

  row_is : (k : ℕ) → (fresh_shelf l k).row ∷ [] ≡ k ∷ []
  unfolding fresh_shelf
  row_is k = refl

  item_is : (k : ℕ) → item_rows_of (fresh_shelf l k).items ≡ k ∷ []
  unfolding fresh_shelf
  item_is k = refl

  pub rows-sound : (room : Room) → columns l ≤ room.shelves → columns l ≤ room.items → Sound room (fresh l)
  unfolding fresh
  rows-sound room shelf_room item_room = record {
    in_room = record { shelves = shelf_room; items = item_room };
    free_listed = fresh_listed 0 (columns l);
    shelf_rows = fresh_shared (λ s. s.row ∷ []) row_is (columns l);
    item_rows = fresh_shared (λ s. item_rows_of s.items) item_is (columns l);
  }

-- ---- its shape

module _ (l : Limits) (w : WithinLimits l) where
  some_column : 1 ≤ columns l
  unfolding columns
  some_column = (le-div_iff_mul-le w.s_least).1 (omega (arith, w.s_most))

  fresh_first : (n : ℕ) → 1 ≤ n → first_row (λ (s : Shelf). s.row) (fresh_shelves l 0 n) ≡ 0
  unfolding fresh_shelves fresh_shelf
  fresh_first zero h = absurd (omega arith)
  fresh_first (suc n) h = refl

  fresh_stacked : (k n : ℕ) → k + n ≡ columns l → Stacked l k 0 (fresh_shelves l k n)
  unfolding fresh_shelves fresh_shelf Stacked
  fresh_stacked k zero e = (omega arith, refl)
  fresh_stacked k (suc n) e =
      (refl, refl, w.sizes.h_least, omega arith, rw (eq-eqb (0 + l.height) l.height (omega arith), add-one k) (fresh_stacked (suc k) n (omega arith)))

  -- fresh shelves stand in different columns
  fresh_alone : (k : ℕ) → NotBothEmpty (fresh_shelf l k) (fresh_shelf l (suc k))
  unfolding fresh_shelf joins is_empty_of
  fresh_alone k = ne_eqb (k * l.shelf_width) (suc k * l.shelf_width) (λ e. omega (arith, suc-mul k l.shelf_width, w.s_least))

  fresh_apart : (k n : ℕ) → Neighbours NotBothEmpty (fresh_shelves l k n)
  unfolding fresh_shelves
  fresh_apart k zero = tt
  fresh_apart k (suc zero) = tt
  fresh_apart k (suc (suc n)) = (fresh_alone k, fresh_apart (suc k) (suc n))

  fresh_right : (k n : ℕ) → Each (Right l) (fresh_shelves l k n)
  unfolding fresh_shelves fresh_shelf Filled
  fresh_right k zero = tt
  fresh_right k (suc n) = (record { filled = (refl, w.s_least, w.s_aligned, refl); free_apart = tt; all_listed = λ r m. m }, fresh_right (suc k) n)

  pub fresh_shape : Shaped (fresh l)
  unfolding fresh
  fresh_shape =
      shaped (fresh l) w
      (record { first = fresh_first (columns l) some_column; stacked = fresh_stacked 0 (columns l) (omega arith); right = fresh_right 0 (columns l) })
      (fresh_apart 0 (columns l))
