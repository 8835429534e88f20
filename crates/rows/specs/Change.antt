-- A row of a table changed where it stands, and reads after stores in the form that `simp` works out.
-- The width is a variable throughout. Assumes nothing.
use Rattle.std.specs.Prelude.{◌≡◌, ◌≢◌, ◌≤◌, ◌<◌}
use Rattle.numbers.specs.Library.{refl, ap, ◌∙◌, true, List, ℕ, dec_lt, ℕ_discrete, arith, ltb, length, ltb-true}
use Rattle.numbers.specs.Prelude.{no_row}
use Rattle.rows.specs.Row.{Shape, rows, rest, get, put, length-put, rows-put, rest_put, get-put_same, get-put_other, put_out, put_none}

module _ {A : Type 0} (s : Shape A) where
  -- row i changed by f. It is shut: what it does is said by the laws below, so that a run of changes stays as short as it is written
  pub change : List ℕ → ℕ → (A → A) → List ℕ
  change l i f = put s l i (f (get s l i))

  pub change-is : (l : List ℕ) (i : ℕ) (f : A → A) → change l i f ≡ put s l i (f (get s l i))
  unfolding change
  change-is l i f = refl

  pub length-change : (l : List ℕ) (i : ℕ) (f : A → A) → length (change l i f) ≡ length l
  length-change l i f = rw change-is (length-put s l i _)

  pub rows-change : (l : List ℕ) (i : ℕ) (f : A → A) → rows s (change l i f) ≡ rows s l
  rows-change l i f = rw change-is (rows-put s l i _)

  pub rest_change : (l : List ℕ) (i : ℕ) (f : A → A) → rest s (change l i f) ≡ rest s l
  rest_change l i f = rw change-is (rest_put s l i _)

  pub get-change_same : (l : List ℕ) (i : ℕ) (f : A → A) → i < rows s l → get s (change l i f) i ≡ f (get s l i)
  get-change_same l i f h = rw change-is (get-put_same s l i _ h)

  pub get-change_other : (l : List ℕ) (i j : ℕ) (f : A → A) → j ≢ i → get s (change l i f) j ≡ get s l j
  get-change_other l i j f d = rw change-is (get-put_other s l i j _ d)

  pub change_out : (l : List ℕ) (i : ℕ) (f : A → A) → rows s l ≤ i → change l i f ≡ l
  change_out l i f h = rw change-is (put_out s l i _ h)

  pub change_none : (l : List ℕ) (i : ℕ) (f : A → A) → i ≡ no_row → l ≡ change l i f
  change_none l i f e = rw change-is (put_none s l i _ e)

  -- that a row is there, as a test: `simp` works it out through the changes before
  pub get-put_there : (l : List ℕ) (i : ℕ) (v : A) → ltb i (rows s l) ≡ true → get s (put s l i v) i ≡ v
  get-put_there l i v h = get-put_same s l i v (ltb-true i (rows s l) h)

  pub get-change_there : (l : List ℕ) (i : ℕ) (f : A → A) → ltb i (rows s l) ≡ true → get s (change l i f) i ≡ f (get s l i)
  get-change_there l i f h = get-change_same l i f (ltb-true i (rows s l) h)

  -- a change that a view does not see
  pub unseen : {B : Type 0} (view : A → B) (f : A → A) → ((v : A) → view (f v) ≡ view v)
      → (l : List ℕ) (i j : ℕ) → view (get s (change l i f) j) ≡ view (get s l j)
  unseen view f h l i j = go (ℕ_discrete j i) (dec_lt i (rows s l)) where
    go : Dec (j ≡ i) → Dec (i < rows s l) → view (get s (change l i f) j) ≡ view (get s l j)
    go (no n) d = ap view (get-change_other l i j f n)
    go (yes e) (yes b) = rw e (ap view (get-change_same l i f b) ∙ h _)
    go (yes e) (no b) = ap (λ (t : List ℕ). view (get s t j)) (change_out l i f (omega arith))
