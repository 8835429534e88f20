-- Sums of areas split at a place (items before and after it, shelves before and after it), and a free list with one row replaced or taken out.
-- Assumes nothing.
use Rattle.std.specs.Prelude.{◌+◌, ◌≡◌, ◌∷◌, ◌++◌}
use Rattle.numbers.specs.Library.{ℕ, refl, sym, ap, ◌∙◌, ⊎_elim, Bool, true, false, List, [], List·Memᴰ·head, List·Memᴰ·tail}
use Rattle.numbers.specs.Library.{List·Memᴰ·not-nil, List·Memᴰ·cases-cons, Memᴰ·cast, arith, eqb, eq-eqb, ne_eqb}
use Rattle.numbers.specs.Prelude.{pick}
use Rattle.chains.specs.Prelude.{◌∈◌, back_onto, first_of}
use Rattle.chains.proofs.Prelude.{self, first_onto, first_in}
use Rattle.rules.specs.Prelude.{Item, Shelf, live_area, occupied, replace_row, free}

-- ---- sums around a place

pub area_onto : (d : ℕ) (bs ys : List Item) → live_area d (back_onto bs ys) ≡ live_area d bs + live_area d ys
unfolding live_area
area_onto d [] ys = omega arith
area_onto d (b ∷ bs) ys = omega (arith, area_onto d bs (b ∷ ys))

pub occupied_onto : (bs ys : List Shelf) → occupied (back_onto bs ys) ≡ occupied bs + occupied ys
unfolding occupied
occupied_onto [] ys = omega arith
occupied_onto (b ∷ bs) ys = omega (arith, occupied_onto bs (b ∷ ys))

-- ---- a free list

-- a list around one of its elements
pub focus_of : (acc l : List ℕ) (r : ℕ) → r ∈ l → (fb : List ℕ) × (fa : List ℕ) × (back_onto acc l ≡ back_onto fb (r ∷ fa))
focus_of acc [] r m = absurd (List·Memᴰ·not-nil m)
focus_of acc (x ∷ l) r m = ⊎_elim (λ e. (acc, l, rw e)) (λ k. focus_of (x ∷ acc) l r k) (List·Memᴰ·cases-cons m)

pub replace_onto : (row : ℕ) (new fb ys : List ℕ) → (row ∈ fb → ⊥) → replace_row row new (back_onto fb ys) ≡ back_onto fb (replace_row row new ys)
unfolding replace_row
replace_onto row new [] ys out = refl
replace_onto row new (b ∷ fb) ys out =
    replace_onto row new fb (b ∷ ys) (λ m. out (List·Memᴰ·tail m))
    ∙ ap (λ (q : Bool). back_onto fb (pick q (new ++ ys) (b ∷ replace_row row new ys))) (ne_eqb row b (λ e. out (List·Memᴰ·head e)))

-- other rows in the place of a row that stands once
pub replace_at : (row : ℕ) (new fb fa : List ℕ) → (row ∈ fb → ⊥) → replace_row row new (back_onto fb (row ∷ fa)) ≡ back_onto fb (new ++ fa)
unfolding replace_row
replace_at row new fb fa out = replace_onto row new fb (row ∷ fa) out ∙ rw (eq-eqb row row refl)

-- a list from which a row is taken has no more than it had
pub kept_in : (x n : ℕ) (l : List ℕ) → x ∈ replace_row n [] l → x ∈ l
unfolding replace_row
kept_in x n [] m = m
kept_in x n (y ∷ l) m = go (eqb n y) (kept_in x n l) m where
  go : (b : Bool) → (x ∈ replace_row n [] l → x ∈ l) → x ∈ pick b l (y ∷ replace_row n [] l) → x ∈ (y ∷ l)
  go true h m = List·Memᴰ·tail m
  go false h m = ⊎_elim (λ e. List·Memᴰ·head e) (λ k. List·Memᴰ·tail (h k)) (List·Memᴰ·cases-cons m)

-- the first row of a free list once other rows, the first of which is `new`, are in the place of row `at`
pub first_listed : (fb : List ℕ) (at new : ℕ) (fa fa' : List ℕ) → (at ∈ fb → ⊥) → new ≡ first_of fa'
    → pick (eqb (first_of (back_onto fb (at ∷ fa))) at) new (first_of (back_onto fb (at ∷ fa))) ≡ first_of (back_onto fb fa')
first_listed [] at new fa fa' out e = rw (eq-eqb at at refl) e
first_listed (b ∷ fb) at new fa fa' out e =
    rw (ne_eqb (first_of (back_onto fb (b ∷ at ∷ fa))) at (λ q. out (Memᴰ·cast (sym q) (rw self at (first_in free b fb (at ∷ fa))))))
    (first_onto free fb b b (at ∷ fa) fa' refl)
