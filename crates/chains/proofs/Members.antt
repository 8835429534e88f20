-- Rows of lists: what each of them has, rows gathered from rows, and used rows that each serve once. Assumes nothing.
use Rattle.std.specs.Prelude.{◌≡◌, ◌∷◌, ◌++◌, ◌+◌, ◌≤◌, ◌<◌}
use Rattle.numbers.specs.Library.{refl, sym, ◌∙◌, ⊎_elim, List, [], List·Memᴰ·head, List·Memᴰ·tail, List·Memᴰ·not-nil, List·Memᴰ·cases-cons}
use Rattle.numbers.specs.Library.{List·Memᴰ·append-cases, Memᴰ·cast, Memᴰ·append-left, Memᴰ·append-right, ℕ, arith, length, length-append}
use Rattle.chains.specs.Prelude.{◌∈◌, Distinct, Each, gather}
use Rattle.chains.proofs.Lists.{dec_memᴰ, distinct_append, distinct_all, distinct_below, covers_length}

-- ---- what each has

pub each_at : (P : ℕ → Type 0) (rows : List ℕ) → Each P rows → (x : ℕ) → x ∈ rows → P x
each_at P [] e x m = absurd (List·Memᴰ·not-nil m)
each_at P (r ∷ rs) e x m = ⊎_elim (λ q. rw q e.0) (each_at P rs e.1 x) (List·Memᴰ·cases-cons m)

pub each_from : {P : ℕ → Type 0} (rows : List ℕ) → ((x : ℕ) → x ∈ rows → P x) → Each P rows
each_from [] f = tt
each_from (r ∷ rs) f = (f r (List·Memᴰ·head refl), each_from rs (λ x m. f x (List·Memᴰ·tail m)))

pub each_map : {A : Type 0} (P Q : A → Type 0) → ((a : A) → P a → Q a) → (xs : List A) → Each P xs → Each Q xs
each_map P Q h [] e = tt
each_map P Q h (x ∷ xs) e = (h x e.0, each_map P Q h xs e.1)

pub each_both : {A : Type 0} (P Q : A → Type 0) (xs : List A) → Each P xs → Each Q xs → Each (λ a. P a × Q a) xs
each_both P Q [] e f = tt
each_both P Q (x ∷ xs) e f = ((e.0, f.0), each_both P Q xs e.1 f.1)

-- ---- rows gathered from rows

pub gather_in : (f : ℕ → List ℕ) (rows : List ℕ) (x : ℕ) → x ∈ gather f rows → (r : ℕ) × (r ∈ rows) × (x ∈ f r)
gather_in f [] x m = absurd (List·Memᴰ·not-nil m)
gather_in f (r ∷ rs) x m =
    ⊎_elim
    (λ k. (r, List·Memᴰ·head refl, k))
    (λ k. let (q, w, v) = gather_in f rs x k in (q, List·Memᴰ·tail w, v))
    (List·Memᴰ·append-cases (f r) m)

pub in_gather : (f : ℕ → List ℕ) (rows : List ℕ) (r x : ℕ) → r ∈ rows → x ∈ f r → x ∈ gather f rows
in_gather f [] r x m k = absurd (List·Memᴰ·not-nil m)
in_gather f (q ∷ rs) r x m k =
    ⊎_elim (λ e. Memᴰ·append-left (gather f rs) (rw e at k)) (λ w. Memᴰ·append-right (f q) (in_gather f rs r x w k)) (List·Memᴰ·cases-cons m)

-- lists of distinct rows that each name the row they are gathered from are distinct together
pub gather_distinct : (f : ℕ → List ℕ) (of : ℕ → ℕ) (rows : List ℕ) → Distinct rows → ((r : ℕ) → r ∈ rows → Distinct (f r))
    → ((r : ℕ) → r ∈ rows → (x : ℕ) → x ∈ f r → of x ≡ r) → Distinct (gather f rows)
gather_distinct f of [] d e n = tt
gather_distinct f of (r ∷ rs) d e n =
    distinct_append (f r) (gather f rs) (e r (List·Memᴰ·head refl))
    (gather_distinct f of rs d.1 (λ q m. e q (List·Memᴰ·tail m)) (λ q m. n q (List·Memᴰ·tail m)))
    (λ x k g.
    let (q, w, v) = gather_in f rs x g in
    let same : r ≡ q = sym (n r (List·Memᴰ·head refl) x k) ∙ n q (List·Memᴰ·tail w) x v in
    d.0 (Memᴰ·cast same w))

-- ---- every used row serves once

module _ (serving freed : List ℕ) (used : ℕ) (ds : Distinct serving) (df : Distinct freed) (apart : (r : ℕ) → r ∈ serving → r ∈ freed → ⊥)
    (bs : (r : ℕ) → r ∈ serving → r < used) (bf : (r : ℕ) → r ∈ freed → r < used) where
  both : Distinct (serving ++ freed)
  both = distinct_append serving freed ds df apart

  below : (r : ℕ) → r ∈ serving ++ freed → r < used
  below r m = ⊎_elim (bs r) (bf r) (List·Memᴰ·append-cases serving m)

  -- where the counts agree, a used row that does not serve is freed
  pub counts_cover : length serving + length freed ≡ used → (r : ℕ) → r < used → (r ∈ serving → ⊥) → r ∈ freed
  counts_cover e r u n =
      ⊎_elim (λ m. absurd (n m)) (λ m. m)
      (List·Memᴰ·append-cases serving (distinct_all (serving ++ freed) used both below (length-append serving freed ∙ e) r u))

  pub cover_counts : ((r : ℕ) → r < used → (r ∈ serving → ⊥) → r ∈ freed) → length serving + length freed ≡ used
  cover_counts c =
      let lo : used ≤ length (serving ++ freed) = covers_length (serving ++ freed) used all in
      let hi : length (serving ++ freed) ≤ used = distinct_below (serving ++ freed) used both below in
      omega (arith, length-append serving freed)
    where
      all : (r : ℕ) → r < used → r ∈ serving ++ freed
      all r u = pick (dec_memᴰ r serving)
        where
          pick : Dec (r ∈ serving) → r ∈ serving ++ freed
          pick (yes m) = Memᴰ·append-left freed m
          pick (no n) = Memᴰ·append-right serving (c r u n)
