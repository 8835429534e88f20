-- Lists of distinct numbers: one that lies within another is no longer than it; of numbers below `n` there are at most `n`, and where
-- there are `n`, every number below `n` is among them. Assumes nothing.
use Rattle.std.specs.Prelude.{◌≡◌, ◌≢◌, ◌∷◌, ◌++◌, ◌≤◌, ◌<◌}
use Rattle.numbers.specs.Library.{refl, sym, ap, ◌∙◌, ⊎_elim, List, [], List-as-Memᴰ, List·Memᴰ·head, List·Memᴰ·tail, List·Memᴰ·not-nil}
use Rattle.numbers.specs.Library.{List·Memᴰ·cases-cons, List·Memᴰ·append-cases, Memᴰ·cast, Memᴰ·append-left, Memᴰ·append-right, ℕ, zero, suc}
use Rattle.numbers.specs.Library.{ℕ_discrete, arith, length}
use Prim.Native.Nat.{zero-le}
use native.Mathlib.Nat.{not-suc-le-zero}
use Rattle.chains.specs.Prelude.{Distinct}

-- a member is another number than one that is no member
pub not_out : {x y : ℕ} {l : List ℕ} → (List-as-Memᴰ x l → ⊥) → List-as-Memᴰ y l → y ≢ x
not_out out m e = out (Memᴰ·cast (sym e) m)

-- `l` without the element at that place
pub cut : {x : ℕ} {l : List ℕ} → List-as-Memᴰ x l → List ℕ
cut (List·Memᴰ·head {xs = xs} e) = xs
cut (List·Memᴰ·tail {x = y} m) = y ∷ cut m

length_cut : {x : ℕ} {l : List ℕ} (m : List-as-Memᴰ x l) → length l ≡ suc (length (cut m))
unfolding cut
length_cut (List·Memᴰ·head e) = refl
length_cut (List·Memᴰ·tail m) = ap suc (length_cut m)

mem_cut : {x y : ℕ} {l : List ℕ} (m : List-as-Memᴰ x l) → y ≢ x → List-as-Memᴰ y l → List-as-Memᴰ y (cut m)
unfolding cut
mem_cut (List·Memᴰ·head e) ne k = ⊎_elim (λ q. absurd (ne (q ∙ sym e))) (λ k'. k') (List·Memᴰ·cases-cons k)
mem_cut (List·Memᴰ·tail m) ne k = ⊎_elim (λ q. List·Memᴰ·head q) (λ k'. List·Memᴰ·tail (mem_cut m ne k')) (List·Memᴰ·cases-cons k)

-- distinct elements that are all in `m` are no more than `m` has
pub distinct_within : (l m : List ℕ) → Distinct l → ((x : ℕ) → List-as-Memᴰ x l → List-as-Memᴰ x m) → length l ≤ length m
distinct_within [] m d s = zero-le
distinct_within (x ∷ xs) m d s =
    let p : List-as-Memᴰ x m = s x (List·Memᴰ·head refl) in
    let h : length xs ≤ length (cut p) =
    distinct_within xs (cut p) d.1 (λ y k. mem_cut p (not_out d.0 k) (s y (List·Memᴰ·tail k))) in
    omega (arith, length_cut p)

-- the numbers below `n`
pub upto : ℕ → List ℕ
upto zero = []
upto (suc n) = n ∷ upto n

length_upto : (n : ℕ) → length (upto n) ≡ n
unfolding upto
length_upto zero = refl
length_upto (suc n) = ap suc (length_upto n)

mem_upto : (x n : ℕ) → x < n → List-as-Memᴰ x (upto n)
unfolding upto
mem_upto x zero h = absurd (not-suc-le-zero h)
mem_upto x (suc n) h =
    elim (ℕ_discrete x n) [ yes e ↦ List·Memᴰ·head e | no ne ↦ List·Memᴰ·tail (mem_upto x n (omega arith)) ]

-- the pigeonhole
pub distinct_below : (l : List ℕ) (n : ℕ) → Distinct l → ((x : ℕ) → List-as-Memᴰ x l → x < n) → length l ≤ n
distinct_below l n d b =
    let h : length l ≤ length (upto n) = distinct_within l (upto n) d (λ x k. mem_upto x n (b x k)) in
    omega (arith, length_upto n)

pub dec_memᴰ : (x : ℕ) (l : List ℕ) → Dec (List-as-Memᴰ x l)
dec_memᴰ x [] = no (λ m. List·Memᴰ·not-nil m)
dec_memᴰ x (y ∷ ys) = pick (ℕ_discrete x y) (dec_memᴰ x ys)
  where
    pick : Dec (x ≡ y) → Dec (List-as-Memᴰ x ys) → Dec (List-as-Memᴰ x (y ∷ ys))
    pick (yes e) d = yes (List·Memᴰ·head e)
    pick (no ne) (yes m) = yes (List·Memᴰ·tail m)
    pick (no ne) (no nm) = no (λ k. ⊎_elim ne nm (List·Memᴰ·cases-cons k))

-- distinct elements of `m`, as many as `m` has, are all of `m`
pub distinct_cover : (l m : List ℕ) → Distinct l → ((x : ℕ) → List-as-Memᴰ x l → List-as-Memᴰ x m) → length m ≤ length l → (y : ℕ) → List-as-Memᴰ y m → List-as-Memᴰ y l
distinct_cover l m d s len y h = pick (dec_memᴰ y l)
  where
    pick : Dec (List-as-Memᴰ y l) → List-as-Memᴰ y l
    pick (yes k) = k
    pick (no nm) =
        let k : suc (length l) ≤ length m = distinct_within (y ∷ l) m (nm, d) (λ x q. ⊎_elim (λ e. Memᴰ·cast e h) (s x) (List·Memᴰ·cases-cons q)) in
        absurd (omega arith)

-- where `n` distinct numbers are below `n`, each number below `n` is among them
pub distinct_all : (l : List ℕ) (n : ℕ) → Distinct l → ((x : ℕ) → List-as-Memᴰ x l → x < n) → length l ≡ n → (y : ℕ) → y < n → List-as-Memᴰ y l
distinct_all l n d b len y h = distinct_cover l (upto n) d (λ x k. mem_upto x n (b x k)) (omega (arith, length_upto n)) y (mem_upto y n h)

-- two lists of distinct numbers with none in common are distinct together, and the other way
pub distinct_append : (l m : List ℕ) → Distinct l → Distinct m → ((x : ℕ) → List-as-Memᴰ x l → List-as-Memᴰ x m → ⊥) → Distinct (l ++ m)
distinct_append [] m dl dm ap' = dm
distinct_append (x ∷ xs) m dl dm ap' = (
  λ k. ⊎_elim dl.0 (ap' x (List·Memᴰ·head refl)) (List·Memᴰ·append-cases xs k),
  distinct_append xs m dl.1 dm (λ y k. ap' y (List·Memᴰ·tail k)),
)

pub distinct_left : (l m : List ℕ) → Distinct (l ++ m) → Distinct l
distinct_left [] m d = tt
distinct_left (x ∷ xs) m d = (λ k. d.0 (Memᴰ·append-left m k), distinct_left xs m d.1)

pub distinct_right : (l m : List ℕ) → Distinct (l ++ m) → Distinct m
distinct_right [] m d = d
distinct_right (x ∷ xs) m d = distinct_right xs m d.1

pub distinct_apart : (l m : List ℕ) → Distinct (l ++ m) → (x : ℕ) → List-as-Memᴰ x l → List-as-Memᴰ x m → ⊥
distinct_apart [] m d x k k' = List·Memᴰ·not-nil k
distinct_apart (y ∷ l) m d x k k' =
    ⊎_elim
    (λ e. d.0 (Memᴰ·append-right l (Memᴰ·cast (sym e) k')))
    (λ q. distinct_apart l m d.1 x q k')
    (List·Memᴰ·cases-cons k)

upto_below : (x n : ℕ) → List-as-Memᴰ x (upto n) → x < n
unfolding upto
upto_below x zero m = absurd (List·Memᴰ·not-nil m)
upto_below x (suc n) m = ⊎_elim (λ e. omega arith) (λ k. let h : x < n = upto_below x n k in omega arith) (List·Memᴰ·cases-cons m)

upto_distinct : (n : ℕ) → Distinct (upto n)
unfolding upto
upto_distinct zero = tt
upto_distinct (suc n) = (λ m. let h : n < n = upto_below n n m in omega arith, upto_distinct n)

-- where every number below `n` is in `l`, it has at least `n` elements
pub covers_length : (l : List ℕ) (n : ℕ) → ((y : ℕ) → y < n → List-as-Memᴰ y l) → n ≤ length l
covers_length l n f =
    let h : length (upto n) ≤ length l = distinct_within (upto n) l (upto_distinct n) (λ x m. f x (upto_below x n m)) in
    omega (arith, length_upto n)
