-- Lists of rows and what is read from each row. Assumes nothing.
use Rattle.std.specs.Prelude.{◌≡◌, ◌∷◌}
use Rattle.numbers.specs.Library.{ℕ, refl, List, [], map}
use Rattle.chains.specs.Prelude.{Each, gather, first_row, first_of}

module _ {E : Type 0} (row : E → ℕ) (f : ℕ → E) where
  -- each element is what is read from its row
  pub read_all : (xs : List E) → Each (λ e. f (row e) ≡ e) xs → map f (gather (λ e. row e ∷ []) xs) ≡ xs
  read_all [] h = refl
  read_all (x ∷ xs) h = let rest : map f (gather (λ e. row e ∷ []) xs) ≡ xs = read_all xs h.1 in cc h.0

  module _ (own : (r : ℕ) → row (f r) ≡ r) where
    pub rows-map : (l : List ℕ) → gather (λ e. row e ∷ []) (map f l) ≡ l
    rows-map [] = refl
    rows-map (r ∷ l) = cc (own r, rows-map l)

    pub first_map : (l : List ℕ) → first_row row (map f l) ≡ first_of l
    first_map [] = refl
    first_map (r ∷ l) = own r

pub each_mapped : {E : Type 0} (f : ℕ → E) (P : E → Type 0) (l : List ℕ) → Each (λ r. P (f r)) l → Each P (map f l)
each_mapped f P [] e = tt
each_mapped f P (r ∷ l) e = (e.0, each_mapped f P l e.1)

pub each_unmapped : {E : Type 0} (f : ℕ → E) (P : E → Type 0) (l : List ℕ) → Each P (map f l) → Each (λ r. P (f r)) l
each_unmapped f P [] e = tt
each_unmapped f P (r ∷ l) e = (e.0, each_unmapped f P l e.1)

pub gather_map : {E : Type 0} (f : ℕ → E) (g : E → List ℕ) (k : ℕ → List ℕ) → ((r : ℕ) → g (f r) ≡ k r) → (l : List ℕ) → gather g (map f l) ≡ gather k l
gather_map f g k h [] = refl
gather_map f g k h (r ∷ l) = cc (h r, gather_map f g k h l)
