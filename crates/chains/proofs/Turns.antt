-- Loops along a chain, turn by turn: one that decides whether a rule holds along it (`Deciding`), one that asks something of each row by itself
-- (`Eaching`), and one that counts its steps down (`Lasting`). Assumes nothing.
use Rattle.std.specs.Prelude.{◌≡◌, ◌≢◌, ◌∷◌, ◌+◌, ◌-◌, ◌≤◌, ◌<◌}
use Rattle.numbers.specs.Library.{refl, [], ℕ, zero, suc, arith, eq-eqb, ne_eqb, length}
use Rattle.numbers.specs.Prelude.{no_row}
use Rattle.chains.specs.Prelude.{Each, rows_from, Walk}
use Rattle.chains.proofs.Walks.{Rest, Step, step, unstep, end, unend, start, unstart}

-- ---- deciding

-- `A` holds exactly when the rest of the chain is right, from row `cur` on, in the state `s`, with so many steps left
pub record Deciding {σ : Type 0} (nx : ℕ → ℕ) (ok : σ → ℕ → Type 0) (next : σ → ℕ → σ) (fin : σ → Type 0) (n : ℕ) (A : Type 0) (cur fuel : ℕ) (s : σ) : Type 0 where
  pub ahead : A → Rest nx ok next fin n cur fuel s
  pub back : Rest nx ok next fin n cur fuel s → A

module _ {σ : Type 0} {nx : ℕ → ℕ} {ok : σ → ℕ → Type 0} {next : σ → ℕ → σ} {fin : σ → Type 0} {n : ℕ} where
  pub begins : {cur : ℕ} {s : σ} → n ≤ no_row → Deciding nx ok next fin n (Walk nx ok next fin n cur s) cur n s
  begins {cur} {s} b = record { ahead = start nx ok next fin n b cur s; back = unstart nx ok next fin n b cur s }

  module _ {A : Type 0} {cur fuel : ℕ} {s : σ} (d : Deciding nx ok next fin n A cur fuel s) where
    pub found : cur ≢ no_row → A → Step nx ok next fin n cur fuel s
    found ne a = step nx ok next fin n cur fuel s ne (d.ahead a)

    pub no_fuel : cur ≢ no_row → fuel ≡ 0 → A → ⊥
    no_fuel ne z a = let f = found ne a in omega arith

    pub outside : cur ≢ no_row → n ≤ cur → A → ⊥
    outside ne o a = let f = found ne a in omega arith

    pub wrong : cur ≢ no_row → (ok s cur → ⊥) → A → ⊥
    wrong ne w a = w (found ne a).here

    pub onward : cur ≢ no_row → 1 ≤ fuel → cur < n → ok s cur → Deciding nx ok next fin n A (nx cur) (fuel - 1) (next s cur)
    onward ne f w o = record {
      ahead = λ a. (found ne a).rest;
      back = λ r. d.back (unstep nx ok next fin n cur fuel s (record { fuelled = f; within = w; here = o; rest = r }));
    }

    pub ended : n ≤ no_row → cur ≡ no_row → A → fin s
    ended b e a = end nx ok next fin n b fuel s (rw e at (d.ahead a))

    pub unended : n ≤ no_row → cur ≡ no_row → fin s → A
    unended b e f = d.back (rw e (unend nx ok next fin n b fuel s f))

-- ---- the rows that are met

pub met_step : (nx : ℕ → ℕ) (fuel cur : ℕ) → cur ≢ no_row → 1 ≤ fuel → rows_from nx fuel cur ≡ cur ∷ rows_from nx (fuel - 1) (nx cur)
met_step nx zero cur ne f = absurd (omega arith)
met_step nx (suc fuel) cur ne f = let e : suc fuel - 1 ≡ fuel = omega arith in rw (e, ne_eqb cur no_row ne, rows_from)

pub met_end : (nx : ℕ → ℕ) (fuel cur : ℕ) → cur ≡ no_row → rows_from nx fuel cur ≡ []
met_end nx zero cur e = refl
met_end nx (suc fuel) cur e = rw (eq-eqb cur no_row e, rows_from)

pub met_out : (nx : ℕ → ℕ) (fuel cur : ℕ) → fuel ≡ 0 → rows_from nx fuel cur ≡ []
met_out nx zero cur e = refl
met_out nx (suc fuel) cur e = absurd (omega arith)

-- ---- a rule for each row by itself

-- `A` holds exactly when each of the rows still to be met has P
pub record Eaching (P : ℕ → Type 0) (nx : ℕ → ℕ) (A : Type 0) (cur fuel : ℕ) : Type 0 where
  pub ahead : A → Each P (rows_from nx fuel cur)
  pub back : Each P (rows_from nx fuel cur) → A

pub each_begins : {P : ℕ → Type 0} {nx : ℕ → ℕ} {cur fuel : ℕ} → Eaching P nx (Each P (rows_from nx fuel cur)) cur fuel
each_begins = record { ahead = λ a. a; back = λ a. a }

module _ {P : ℕ → Type 0} {nx : ℕ → ℕ} {A : Type 0} {cur fuel : ℕ} (d : Eaching P nx A cur fuel) where
  here : cur ≢ no_row → 1 ≤ fuel → A → P cur × Each P (rows_from nx (fuel - 1) (nx cur))
  here ne f a = rw (met_step nx fuel cur ne f, Each) at (d.ahead a)

  pub each_wrong : cur ≢ no_row → 1 ≤ fuel → (P cur → ⊥) → A → ⊥
  each_wrong ne f n a = n (here ne f a).0

  pub each_onward : cur ≢ no_row → 1 ≤ fuel → P cur → Eaching P nx A (nx cur) (fuel - 1)
  each_onward ne f p = record { ahead = λ a. (here ne f a).1; back = λ r. d.back (rw (met_step nx fuel cur ne f, Each) (p, r)) }

  pub each_ended : cur ≡ no_row → A
  each_ended e = d.back (rw (met_end nx fuel cur e, Each) tt)

  pub each_out : fuel ≡ 0 → A
  each_out e = d.back (rw (met_out nx fuel cur e, Each) tt)

-- ---- counting down

-- of `n` steps so many are left, and so many rows of `total` are still to be met
pub record Lasting (nx : ℕ → ℕ) (n total cur fuel : ℕ) : Type 0 where
  pub left : fuel + total ≡ n + length (rows_from nx fuel cur)

pub lasts : {nx : ℕ → ℕ} {n cur : ℕ} → Lasting nx n (length (rows_from nx n cur)) cur n
lasts = record { left = refl }

module _ {nx : ℕ → ℕ} {n total cur fuel : ℕ} (s : Lasting nx n total cur fuel) where
  pub lasted : cur ≢ no_row → 1 ≤ fuel → Lasting nx n total (nx cur) (fuel - 1)
  lasted ne h = let e : fuel + total ≡ n + length (cur ∷ rows_from nx (fuel - 1) (nx cur)) = rw (met_step nx fuel cur ne h) at s.left in
      record { left = omega arith }

  pub last_ended : cur ≡ no_row → fuel + total ≡ n
  last_ended q = let e : fuel + total ≡ n + 0 = rw (met_end nx fuel cur q, length) at s.left in omega arith
