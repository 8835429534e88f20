-- Following the links of a chain meets the rows of the chain: between the elements that lie in a table and the rows that are met there. Assumes nothing.
use Rattle.std.specs.Prelude.{◌≤◌, ◌<◌, ◌≡◌, ◌∷◌}
use Rattle.numbers.specs.Library.{ℕ, refl, sym, ap, ◌∙◌, List, [], map, List·Memᴰ·head, List·Memᴰ·tail}
use Rattle.numbers.specs.Prelude.{no_row}
use Rattle.chains.specs.Prelude.{◌∈◌, Each, Kind, first_row, first_of, Chain, rows_from, Ends, Holds}
use Rattle.chains.proofs.Prelude.{rows_of, ends_rows, ends_length}
use Rattle.laws.proofs.Stored.Lists.{first_map}

-- each row says something of the row before
abbrev pub Back : (ℕ → ℕ → Type 0) → ℕ → List ℕ → Type 0
Back says = Holds says (λ p r. r) (λ last. Unit {0})

pub first_rows : {E C : Type 0} (k : Kind E C) (xs : List E) → first_of (rows_of k xs) ≡ first_row k.row xs
first_rows k [] = refl
first_rows k (x ∷ xs) = refl

-- what follows of each element from what its row says
pub chain_each : {E C : Type 0} (k : Kind E C) (at : ℕ → C) (P : E → Type 0) → ((e : E) (p n : ℕ) → at (k.row e) ≡ k.says p e n → P e)
    → (p : ℕ) (xs : List E) → Chain k at p xs → Each P xs
chain_each k at P f p [] c = tt
chain_each k at P f p (x ∷ xs) c = (f x p (first_row k.row xs) c.0, chain_each k at P f (k.row x) xs c.1)

-- the row of an element says it, between some rows
abbrev pub Says : {E C : Type 0} → Kind E C → (ℕ → C) → E → Type 0
Says k at e = (p : ℕ) × (n : ℕ) × (at (k.row e) ≡ k.says p e n)

pub chain_says : {E C : Type 0} (k : Kind E C) (at : ℕ → C) (p : ℕ) (xs : List E) → Chain k at p xs → Each (Says k at) xs
chain_says k at p xs c = chain_each k at (Says k at) (λ e p n q. (p, n, q)) p xs c

module _ {E C : Type 0} (k : Kind E C) (at : ℕ → C) (next : ℕ → ℕ) (used : ℕ) where
  -- ---- from the rows to the elements

  pub chain_map : (f : ℕ → E) → ((r : ℕ) → k.row (f r) ≡ r) → (p : ℕ) (l : List ℕ) → Ends next used l
      → Back (λ p r. at r ≡ k.says p (f r) (next r)) p l → Chain k at p (map f l)
  chain_map f own p [] e b = tt
  chain_map f own p (r ∷ l) e b = (
    ap at (own r) ∙ b.0 ∙ ap (k.says p (f r)) (e.1 ∙ sym (first_map k.row f own l)),
    rw (own r) (chain_map f own r l e.2 b.1),
  )

  -- ---- from the elements to the rows

  module _ (names : (e : E) (p n : ℕ) → at (k.row e) ≡ k.says p e n → next (k.row e) ≡ n) where
    pub chain_ends : (p : ℕ) (xs : List E) → ((r : ℕ) → r ∈ rows_of k xs → r < used) → Chain k at p xs → Ends next used (rows_of k xs)
    chain_ends p [] b c = tt
    chain_ends p (x ∷ xs) b c = (
      b (k.row x) (List·Memᴰ·head refl),
      names x p (first_row k.row xs) c.0 ∙ sym (first_rows k xs),
      chain_ends (k.row x) xs (λ r m. b r (List·Memᴰ·tail m)) c.1,
    )

    -- the rows that are met are those of the elements
    pub chain_met : used ≤ no_row → (p : ℕ) (xs : List E) → ((r : ℕ) → r ∈ rows_of k xs → r < used) → Chain k at p xs
        → rows_from next used (first_row k.row xs) ≡ rows_of k xs
    chain_met few p xs b c =
        let ends : Ends next used (rows_of k xs) = chain_ends p xs b c in
        ap (rows_from next used) (sym (first_rows k xs)) ∙ ends_rows next used few used (rows_of k xs) (ends_length next used few (rows_of k xs) ends) ends
