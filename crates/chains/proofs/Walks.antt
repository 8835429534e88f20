-- The proof of a loop along a chain, once for all of them: a loop that carries a state along unchecked links decides whether a rule holds along them.
-- `Rest` says what has still to hold, from the row that the loop has come to; `step` and `unstep` are one turn, `end` and `unend` the loop's end.
-- Then what follows from a rule along a chain, and that nothing but the used rows is read. Assumes nothing.
use Rattle.std.specs.Prelude.{◌≡◌, ◌≢◌, ◌∷◌, ◌-◌, ◌≤◌, ◌<◌}
use Rattle.numbers.specs.Library.{refl, sym, ap, ◌∙◌, ⊎_elim, List, [], List·Memᴰ·head, List·Memᴰ·tail, List·Memᴰ·not-nil, List·Memᴰ·cases-cons}
use Rattle.numbers.specs.Library.{ℕ, arith, length}
use Rattle.numbers.specs.Prelude.{no_row}
use Rattle.chains.specs.Prelude.{◌∈◌, first_of, rows_from, Ends, Holds, Walk}
use Rattle.chains.proofs.Ends.{ends_rows, ends_length}

module _ {σ : Type 0} (nx : ℕ → ℕ) (ok : σ → ℕ → Type 0) (next : σ → ℕ → σ) (fin : σ → Type 0) (n : ℕ) where
  pub record Rest (cur fuel : ℕ) (s : σ) : Type 0 where
    pub rows : List ℕ
    pub short : length rows ≤ fuel
    pub first : first_of rows ≡ cur
    pub ends : Ends nx n rows
    pub holds : Holds ok next fin s rows

  pub record Step (cur fuel : ℕ) (s : σ) : Type 0 where
    pub fuelled : 1 ≤ fuel
    pub within : cur < n
    pub here : ok s cur
    pub rest : Rest (nx cur) (fuel - 1) (next s cur)

  pub step : (cur fuel : ℕ) (s : σ) → cur ≢ no_row → Rest cur fuel s → Step cur fuel s
  step cur fuel s ne w = go w.rows w.short w.first w.ends w.holds
    where
      go : (rows : List ℕ) → length rows ≤ fuel → first_of rows ≡ cur → Ends nx n rows → Holds ok next fin s rows → Step cur fuel s
      go [] h f l a = absurd (ne (sym f))
      go (r ∷ rs) h f l a =
          rw (← f) (record {
            fuelled = omega arith;
            within = l.0;
            here = a.0;
            rest = record { rows = rs; short = omega arith; first = sym l.1; ends = l.2; holds = a.1 };
          })

  pub unstep : (cur fuel : ℕ) (s : σ) → Step cur fuel s → Rest cur fuel s
  unstep cur fuel s t =
      record { rows = cur ∷ t.rest.rows; short = omega arith; first = refl; ends = (t.within, sym t.rest.first, t.rest.ends); holds = (t.here, t.rest.holds) }

  module _ (b : n ≤ no_row) where
    pub end : (fuel : ℕ) (s : σ) → Rest no_row fuel s → fin s
    end fuel s w = go w.rows w.first w.ends w.holds
      where
        go : (rows : List ℕ) → first_of rows ≡ no_row → Ends nx n rows → Holds ok next fin s rows → fin s
        go [] f l a = a
        go (r ∷ rs) f l a = absurd (omega arith)

    pub unend : (fuel : ℕ) (s : σ) → fin s → Rest no_row fuel s
    unend fuel s e = record { rows = []; short = omega arith; first = refl; ends = tt; holds = e }

    pub start : (cur : ℕ) (s : σ) → Walk nx ok next fin n cur s → Rest cur n s
    start cur s g =
        record { rows = rows_from nx n cur; short = ends_length nx n b (rows_from nx n cur) g.ends; first = g.starts; ends = g.ends; holds = g.holds }

    pub unstart : (cur : ℕ) (s : σ) → Rest cur n s → Walk nx ok next fin n cur s
    unstart cur s w =
        let e : rows_from nx n cur ≡ w.rows = (rw w.first at (ends_rows nx n b n w.rows w.short w.ends)) in
        record { starts = rw e w.first; ends = rw e w.ends; holds = rw e w.holds }

-- ---- what holds along a chain

holds_each : {σ : Type 0} (right : σ → ℕ → Type 0) (over : σ → ℕ → σ) (good : σ → Type 0) (P : ℕ → Type 0) → ((s : σ) (r : ℕ) → right s r → P r)
    → (s : σ) (rows : List ℕ) → Holds right over good s rows → (x : ℕ) → x ∈ rows → P x
holds_each right over good P f s [] h x m = absurd (List·Memᴰ·not-nil m)
holds_each right over good P f s (r ∷ rs) h x m =
    ⊎_elim (λ e. rw e (f s r h.0)) (holds_each right over good P f (over s r) rs h.1 x) (List·Memᴰ·cases-cons m)

-- the rule in another state, of which the first state tells
pub holds_view : {σ τ : Type 0} (right : σ → ℕ → Type 0) (over : σ → ℕ → σ) (good : σ → Type 0) (right' : τ → ℕ → Type 0) (over' : τ → ℕ → τ) (good' : τ → Type 0)
    (v : σ → τ) → ((s : σ) (r : ℕ) → v (over s r) ≡ over' (v s) r) → ((s : σ) → good s → good' (v s))
    → (s : σ) (l : List ℕ) → ((s : σ) (r : ℕ) → r ∈ l → right s r → right' (v s) r) → Holds right over good s l → Holds right' over' good' (v s) l
holds_view right over good right' over' good' v step end s [] f h = end s h
holds_view right over good right' over' good' v step end s (r ∷ l) f h = (
  f s r (List·Memᴰ·head refl) h.0,
  rw step at (holds_view right over good right' over' good' v step end (over s r) l (λ t q m. f t q (List·Memᴰ·tail m)) h.1),
)

module _ {σ : Type 0} {nx : ℕ → ℕ} {right : σ → ℕ → Type 0} {over : σ → ℕ → σ} {good : σ → Type 0} {used at : ℕ} {s : σ} (w : Walk nx right over good used at s) where
  -- what holds of each row of a chain, whatever the state it is met in
  pub walk_each : (P : ℕ → Type 0) → ((s : σ) (r : ℕ) → right s r → P r) → (x : ℕ) → x ∈ rows_from nx used at → P x
  walk_each P f = holds_each right over good P f s (rows_from nx used at) w.holds

  -- the rule along a chain changed into another, with what is known of its rows
  pub walk_map : (right' : σ → ℕ → Type 0) → ((s : σ) (r : ℕ) → r ∈ rows_from nx used at → right s r → right' s r) → Walk nx right' over good used at s
  walk_map right' f = record {
    starts = w.starts;
    ends = w.ends;
    holds = holds_view right over good right' over good (λ s. s) (λ s r. refl) (λ s g. g) s (rows_from nx used at) f w.holds;
  }

-- ---- another table, that says the same of every used row

module _ (nx nx' : ℕ → ℕ) (n : ℕ) (links : (r : ℕ) → r < n → nx' r ≡ nx r) where
  ends_alike : (rows : List ℕ) → Ends nx n rows → Ends nx' n rows
  ends_alike [] e = tt
  ends_alike (r ∷ rs) e = (e.0, links r e.0 ∙ e.1, ends_alike rs e.2)

  -- a chain that ends meets the same rows
  pub rows_alike : n ≤ no_row → (at : ℕ) → first_of (rows_from nx n at) ≡ at → Ends nx n (rows_from nx n at) → rows_from nx' n at ≡ rows_from nx n at
  rows_alike b at f e =
      ap (rows_from nx' n) (sym f) ∙ ends_rows nx' n b n (rows_from nx n at) (ends_length nx n b (rows_from nx n at) e) (ends_alike (rows_from nx n at) e)

  module _ {σ : Type 0} (right right' : σ → ℕ → Type 0) (over over' : σ → ℕ → σ) (good : σ → Type 0)
      (rights : (s : σ) (r : ℕ) → r < n → right s r → right' s r) (overs : (s : σ) (r : ℕ) → r < n → over' s r ≡ over s r) where
    holds_alike : (s : σ) (rows : List ℕ) → Ends nx n rows → Holds right over good s rows → Holds right' over' good s rows
    holds_alike s [] e h = h
    holds_alike s (r ∷ rs) e h = (rights s r e.0 h.0, rw (overs s r e.0) (holds_alike (over s r) rs e.2 h.1))

    pub walk_alike : n ≤ no_row → (at : ℕ) (s : σ) → Walk nx right over good n at s → Walk nx' right' over' good n at s
    walk_alike b at s w =
        let e : rows_from nx' n at ≡ rows_from nx n at = rows_alike b at w.starts w.ends in
        record { starts = rw e w.starts; ends = rw e (ends_alike (rows_from nx n at) w.ends); holds = rw e (holds_alike s (rows_from nx n at) w.ends w.holds) }
