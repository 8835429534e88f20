-- A chain that ends: its rows are the only ones that lead from its first row to no row, they are distinct, and a walk of as many steps as
-- there are used rows meets them all. So a walk needs no marks, and no links back. Assumes nothing.
use Rattle.std.specs.Prelude.{◌≡◌, ◌≢◌, ◌∷◌, ◌≤◌, ◌<◌}
use Rattle.numbers.specs.Library.{refl, sym, ap, ◌∙◌, ⊎_elim, List, [], List-as-Memᴰ, List·Memᴰ·not-nil, List·Memᴰ·cases-cons, ℕ, zero, suc}
use Rattle.numbers.specs.Library.{arith, ne_eqb, length}
use Rattle.numbers.specs.Prelude.{no_row}
use Rattle.chains.specs.Prelude.{Distinct, first_of, rows_from, Ends, EndsFrom}
use Rattle.chains.proofs.Lists.{distinct_below}

module _ (nx : ℕ → ℕ) (n : ℕ) (b : n ≤ no_row) where
  pub ends_below : (rows : List ℕ) → Ends nx n rows → (x : ℕ) → List-as-Memᴰ x rows → x < n
  ends_below [] l x k = absurd (List·Memᴰ·not-nil k)
  ends_below (r ∷ rs) l x k = ⊎_elim (λ q. omega arith) (ends_below rs l.2 x) (List·Memᴰ·cases-cons k)

  -- two chains that end and start alike are the same
  pub ends_unique : (xs ys : List ℕ) → first_of xs ≡ first_of ys → Ends nx n xs → Ends nx n ys → xs ≡ ys
  ends_unique [] [] e l k = refl
  ends_unique [] (y ∷ ys) e l k = absurd (omega arith)
  ends_unique (x ∷ xs) [] e l k = absurd (omega arith)
  ends_unique (x ∷ xs) (y ∷ ys) e l k =
      let q : xs ≡ ys = ends_unique xs ys (sym l.1 ∙ ap nx e ∙ k.1) l.2 k.2 in cc

  -- from a row of a chain that ends, a chain no longer ends
  ends_from : (rows : List ℕ) (x : ℕ) → List-as-Memᴰ x rows → Ends nx n rows → (xs : List ℕ) × Ends nx n (x ∷ xs) × (suc (length xs) ≤ length rows)
  ends_from [] x k l = absurd (List·Memᴰ·not-nil k)
  ends_from (r ∷ rs) x k l =
      ⊎_elim
      (λ q. (rs, rw q l, omega arith))
      (λ q. let f = ends_from rs x q l.2 in (f.0, f.1, omega arith))
      (List·Memᴰ·cases-cons k)

  pub ends_distinct : (rows : List ℕ) → Ends nx n rows → Distinct rows
  ends_distinct [] l = tt
  ends_distinct (r ∷ rs) l = (
    λ k.
        let f = ends_from rs r k l.2 in
        let q : r ∷ rs ≡ r ∷ f.0 = ends_unique (r ∷ rs) (r ∷ f.0) refl l f.1 in
        omega (arith, ap length q),
    ends_distinct rs l.2,
  )

  pub ends_length : (rows : List ℕ) → Ends nx n rows → length rows ≤ n
  ends_length rows l = distinct_below rows n (ends_distinct rows l) (ends_below rows l)

  -- the rows that a walk meets are those
  pub ends_rows : (fuel : ℕ) (rows : List ℕ) → length rows ≤ fuel → Ends nx n rows → rows_from nx fuel (first_of rows) ≡ rows
  ends_rows zero [] h l = refl
  ends_rows zero (r ∷ rs) h l = absurd (omega arith)
  ends_rows (suc k) [] h l = refl
  ends_rows (suc k) (r ∷ rs) h l = rw (ne_eqb r no_row (λ e. omega arith), rows_from) (rw l.1 (rw (ends_rows k rs (omega arith) l.2)))

  -- ---- from one row of a chain to the next

  -- a row of a chain that ends is a used one, and the chain from the next row on ends, one row shorter
  pub record Onward (at : ℕ) : Type 0 where
    pub within : at < n
    pub rest : EndsFrom nx n (nx at)
    pub rows_are : rows_from nx n at ≡ at ∷ rows_from nx n (nx at)

  pub ends_onward : (at : ℕ) → at ≢ no_row → EndsFrom nx n at → Onward at
  ends_onward at ne e = go (rows_from nx n at) refl e.starts e.ends
    where
      go : (rows : List ℕ) → rows_from nx n at ≡ rows → first_of rows ≡ at → Ends nx n rows → Onward at
      go [] are f l = absurd (ne (sym f))
      go (x ∷ xs) are f l =
          let follow : nx at ≡ first_of xs = ap nx (sym f) ∙ l.1 in
          let later : rows_from nx n (nx at) ≡ xs = ap (rows_from nx n) follow ∙ ends_rows n xs (ends_length xs l.2) l.2 in
          record {
            within = omega (arith, l.0);
            rest = record { starts = rw later (sym follow); ends = rw later l.2 };
            rows_are = are ∙ (let k : x ∷ xs ≡ at ∷ rows_from nx n (nx at) = cc in k);
          }

-- the same chain, among more rows
module _ (nx : ℕ → ℕ) (m n : ℕ) (more : m ≤ n) (b : n ≤ no_row) where
  ends_wider : (rows : List ℕ) → Ends nx m rows → Ends nx n rows
  ends_wider [] l = tt
  ends_wider (r ∷ rs) l = (omega arith, l.1, ends_wider rs l.2)

  pub rows_among : (at : ℕ) → EndsFrom nx m at → rows_from nx n at ≡ rows_from nx m at
  rows_among at e =
      let l : Ends nx n (rows_from nx m at) = ends_wider (rows_from nx m at) e.ends in
      ap (rows_from nx n) (sym e.starts) ∙ ends_rows nx n b n (rows_from nx m at) (ends_length nx n b (rows_from nx m at) l) l

  pub ends_among : (at : ℕ) → EndsFrom nx m at → EndsFrom nx n at
  ends_among at e = let same = rows_among at e in record { starts = rw same e.starts; ends = rw same (ends_wider (rows_from nx m at) e.ends) }
