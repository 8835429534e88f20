-- A table of which only the first n rows may have changed: every later row, what is left after the last row and the length are as they were.
-- Assumes nothing.
use Rattle.std.specs.Prelude.{◌≤◌, ◌<◌, ◌≡◌, ◌⊎◌}
use Rattle.numbers.specs.Library.{ℕ, refl, ◌∙◌, ⊎_elim, List, arith, length}
use Rattle.numbers.specs.Prelude.{no_row}
use Rattle.rows.specs.Row.{Shape, rest, get, put, length-put, rest_put, get-put_other}
use Rattle.rows.specs.Change.{change, change-is, change_none}

pub record Past {A : Type 0} (s : Shape A) (n : ℕ) (l t : List ℕ) : Type 0 where
  pub as_long : length t ≡ length l
  pub rest_kept : rest s t ≡ rest s l
  pub later : (j : ℕ) → n ≤ j → get s t j ≡ get s l j

module _ {A : Type 0} (s : Shape A) (n : ℕ) where
  pub past_same : (l : List ℕ) → Past s n l l
  past_same l = record { as_long = refl; rest_kept = refl; later = λ j b. refl }

  -- one more of the first n rows stored or changed; a change through no row is none
  module _ {l t : List ℕ} (p : Past s n l t) (i : ℕ) where
    pub past_put : (v : A) → i < n → Past s n l (put s t i v)
    past_put v b = record {
      as_long = length-put s t i v ∙ p.as_long;
      rest_kept = rest_put s t i v ∙ p.rest_kept;
      later = λ j c. get-put_other s t i j v (λ e. omega arith) ∙ p.later j c;
    }

    pub past_change : (f : A → A) → (i < n) ⊎ (i ≡ no_row) → Past s n l (change s t i f)
    past_change f o = ⊎_elim (λ b. rw change-is (past_put (f (get s t i)) b)) (λ e. rw (← (change_none s t i f e)) p) o

-- more rows may have changed
pub past_more : {A : Type 0} (s : Shape A) {n : ℕ} (m : ℕ) {l t : List ℕ} → n ≤ m → Past s n l t → Past s m l t
past_more s m b p = record { as_long = p.as_long; rest_kept = p.rest_kept; later = λ j c. p.later j (omega arith) }

pub past_then : {A : Type 0} (s : Shape A) {n : ℕ} {l t u : List ℕ} → Past s n l t → Past s n t u → Past s n l u
past_then s p q = record {
  as_long = q.as_long ∙ p.as_long;
  rest_kept = q.rest_kept ∙ p.rest_kept;
  later = λ j b. q.later j b ∙ p.later j b;
}
