-- Sums over rows: of lists put together, with parts that agree, and added up by a loop along the rows that it meets (`Summing`). Assumes nothing.
use Rattle.std.specs.Prelude.{◌≡◌, ◌≢◌, ◌∷◌, ◌++◌, ◌+◌, ◌-◌, ◌≤◌}
use Rattle.numbers.specs.Library.{refl, ⊎_elim, List, [], List·Memᴰ·head, List·Memᴰ·tail, List·Memᴰ·not-nil, List·Memᴰ·cases-cons, ℕ}
use Rattle.numbers.specs.Library.{arith, length, length-append}
use Rattle.numbers.specs.Prelude.{no_row}
use Rattle.chains.specs.Prelude.{◌∈◌, gather, rows_from}
use Rattle.chains.proofs.Prelude.{met_step, met_end, met_out}
use Rattle.rules.specs.Prelude.{sum_over}

-- ---- sums over lists

pub length-sum : (rows : List ℕ) → length rows ≡ sum_over (λ r. 1) rows
length-sum [] = refl
length-sum (r ∷ rs) = omega (arith, length-sum rs)

pub length-gather : (f : ℕ → List ℕ) (rows : List ℕ) → length (gather f rows) ≡ sum_over (λ r. length (f r)) rows
length-gather f [] = refl
length-gather f (r ∷ rs) = omega (arith, length-gather f rs, length-append (f r) (gather f rs))

sum-append : (g : ℕ → ℕ) (l m : List ℕ) → sum_over g (l ++ m) ≡ sum_over g l + sum_over g m
sum-append g [] m = omega arith
sum-append g (x ∷ l) m = omega (arith, sum-append g l m)

pub sum-gather : (g : ℕ → ℕ) (f : ℕ → List ℕ) (rows : List ℕ) → sum_over g (gather f rows) ≡ sum_over (λ r. sum_over g (f r)) rows
sum-gather g f [] = refl
sum-gather g f (r ∷ rs) = omega (arith, sum-gather g f rs, sum-append g (f r) (gather f rs))

-- ---- sums that agree

sum_most : (f g : ℕ → ℕ) (rows : List ℕ) → ((r : ℕ) → r ∈ rows → f r ≤ g r) → sum_over f rows ≤ sum_over g rows
sum_most f g [] h = omega arith
sum_most f g (r ∷ rs) h = omega (arith, h r (List·Memᴰ·head refl), sum_most f g rs (λ x m. h x (List·Memᴰ·tail m)))

-- where no part is greater and the sums agree, the parts do
pub sum_parts : (f g : ℕ → ℕ) (rows : List ℕ) → ((r : ℕ) → r ∈ rows → f r ≤ g r) → sum_over f rows ≡ sum_over g rows → (r : ℕ) → r ∈ rows → f r ≡ g r
sum_parts f g [] h e r m = absurd (List·Memᴰ·not-nil m)
sum_parts f g (q ∷ rs) h e r m =
    let a : f q ≤ g q = h q (List·Memᴰ·head refl) in
    let b : sum_over f rs ≤ sum_over g rs = sum_most f g rs (λ x k. h x (List·Memᴰ·tail k)) in
    ⊎_elim (λ k. rw k (omega arith)) (sum_parts f g rs (λ x k. h x (List·Memᴰ·tail k)) (omega arith) r) (List·Memᴰ·cases-cons m)

pub sum_same : (f g : ℕ → ℕ) (rows : List ℕ) → ((r : ℕ) → r ∈ rows → f r ≡ g r) → sum_over f rows ≡ sum_over g rows
sum_same f g [] h = refl
sum_same f g (r ∷ rs) h = omega (arith, h r (List·Memᴰ·head refl), sum_same f g rs (λ x m. h x (List·Memᴰ·tail m)))

-- a sum is 0 exactly when each part is
pub sum_none : (f : ℕ → ℕ) (rows : List ℕ) → sum_over f rows ≡ 0 → (r : ℕ) → r ∈ rows → f r ≡ 0
sum_none f [] e r m = absurd (List·Memᴰ·not-nil m)
sum_none f (q ∷ rs) e r m = ⊎_elim (λ k. rw k (omega arith)) (sum_none f rs (omega arith) r) (List·Memᴰ·cases-cons m)

pub none_sum : (f : ℕ → ℕ) (rows : List ℕ) → ((r : ℕ) → r ∈ rows → f r ≡ 0) → sum_over f rows ≡ 0
none_sum f [] h = refl
none_sum f (r ∷ rs) h = omega (arith, h r (List·Memᴰ·head refl), none_sum f rs (λ x m. h x (List·Memᴰ·tail m)))

-- ---- adding up

-- so far `sum`; with what f gives for the rows still to be met it is `total`
pub record Summing (f nx : ℕ → ℕ) (total cur fuel sum : ℕ) : Type 0 where
  pub adds : sum + sum_over f (rows_from nx fuel cur) ≡ total

pub sums : {f nx : ℕ → ℕ} {cur fuel : ℕ} → Summing f nx (sum_over f (rows_from nx fuel cur)) cur fuel 0
sums = record { adds = omega arith }

module _ {f nx : ℕ → ℕ} {total cur fuel sum : ℕ} (s : Summing f nx total cur fuel sum) where
  pub summed : cur ≢ no_row → 1 ≤ fuel → Summing f nx total (nx cur) (fuel - 1) (sum + f cur)
  summed ne h = let e : sum + sum_over f (cur ∷ rows_from nx (fuel - 1) (nx cur)) ≡ total = rw (met_step nx fuel cur ne h) at s.adds in
      record { adds = omega arith }

  -- the same, with the row's part and the next row as the loop has them
  pub summed_as : {v q : ℕ} → cur ≢ no_row → 1 ≤ fuel → v ≡ f cur → q ≡ nx cur → Summing f nx total q (fuel - 1) (sum + v)
  summed_as ne h e e' = rw (e, e') (summed ne h)

  pub sum-ended : cur ≡ no_row → sum ≡ total
  sum-ended q = let e : sum + 0 ≡ total = rw (met_end nx fuel cur q, sum_over) at s.adds in omega arith

  pub sum_out : fuel ≡ 0 → sum ≡ total
  sum_out q = let e : sum + 0 ≡ total = rw (met_out nx fuel cur q, sum_over) at s.adds in omega arith
