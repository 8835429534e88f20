-- The rows of a shelf's items: of live ones and of free ones, and a free list in which a row is replaced. Assumes nothing.
use Rattle.std.specs.Prelude.{◌≡◌, ◌≢◌, ◌∷◌, ◌++◌}
use Rattle.numbers.specs.Library.{ℕ, refl, sym, ◌∙◌, inr, ⊎_elim, Bool, true, false, List, [], List·Memᴰ·head, List·Memᴰ·tail}
use Rattle.numbers.specs.Library.{List·Memᴰ·not-nil, List·Memᴰ·cases-cons, Memᴰ·append-left, Memᴰ·append-right, ℕ_discrete, eqb, eq-eqb, ne_eqb}
use Rattle.numbers.specs.Prelude.{pick}
use Rattle.chains.specs.Prelude.{◌∈◌, Distinct, back_onto}
use Rattle.chains.proofs.Prelude.{in_onto}
use Rattle.rules.specs.Prelude.{Item, replace_row, live_rows, free_rows, item_rows_of}
use Rattle.rules.proofs.LiveRows.{live_free}

-- ---- rows of live items and of free ones: none is both

abbrev pub row_of : Item → List ℕ
row_of i = i.row ∷ []

abbrev pub free_of : Item → List ℕ
free_of i = pick i.live [] (i.row ∷ [])

-- an item whose row is a free item's is free
pub is_free : (ib : List Item) (i : Item) (ia : List Item) → Distinct (item_rows_of (back_onto ib (i ∷ ia))) → i.row ∈ free_rows (back_onto ib (i ∷ ia)) → i.live ≡ false
is_free ib i ia once m = go i.live refl where
  there : i.live ≡ true → i.row ∈ live_rows (i ∷ ia)
  there e = rw e (List·Memᴰ·head refl)

  go : (b : Bool) → i.live ≡ b → i.live ≡ false
  go false e = e
  go true e = absurd (live_free (back_onto ib (i ∷ ia)) once i.row (in_onto (λ (j : Item). pick j.live (j.row ∷ []) []) i.row ib (i ∷ ia) (inr (there e))) m)

-- ---- a row of a list replaced

pub stays_listed : (row : ℕ) (new l : List ℕ) (r : ℕ) → r ≢ row → r ∈ l → r ∈ replace_row row new l
unfolding replace_row
stays_listed row new [] r n m = absurd (List·Memᴰ·not-nil m)
stays_listed row new (x ∷ l) r n m = go (ℕ_discrete row x) (stays_listed row new l r n) where
  go : Dec (row ≡ x) → (r ∈ l → r ∈ replace_row row new l) → r ∈ pick (eqb row x) (new ++ l) (x ∷ replace_row row new l)
  go (yes e) ih = rw (eq-eqb row x e) (Memᴰ·append-right new (⊎_elim (λ q. absurd (n (q ∙ sym e))) (λ k. k) (List·Memᴰ·cases-cons m)))
  go (no d) ih = rw (ne_eqb row x d) (⊎_elim (λ q. List·Memᴰ·head q) (λ k. List·Memᴰ·tail (ih k)) (List·Memᴰ·cases-cons m))

pub new_listed : (row : ℕ) (new l : List ℕ) (r : ℕ) → row ∈ l → r ∈ new → r ∈ replace_row row new l
unfolding replace_row
new_listed row new [] r m k = absurd (List·Memᴰ·not-nil m)
new_listed row new (x ∷ l) r m k = go (ℕ_discrete row x) (new_listed row new l r) where
  go : Dec (row ≡ x) → (row ∈ l → r ∈ new → r ∈ replace_row row new l) → r ∈ pick (eqb row x) (new ++ l) (x ∷ replace_row row new l)
  go (yes e) ih = rw (eq-eqb row x e) (Memᴰ·append-left l k)
  go (no d) ih = rw (ne_eqb row x d) (⊎_elim (λ q. absurd (d q)) (λ q. List·Memᴰ·tail (ih q k)) (List·Memᴰ·cases-cons m))
