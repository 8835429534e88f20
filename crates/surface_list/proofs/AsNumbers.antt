-- The call over a list of numbers (`listing`) and this one say the same: where the numbers are the records', the answers are equal, and so are the
-- numbers that are left. A list of numbers counts as 65535 records at most, so it is said of lists of no more. Assumes nothing.
use Rattle.std.specs.Prelude.{◌+◌, ◌-◌, ◌*◌, ◌≤◌, ◌<◌, ◌≡◌, ◌∷◌, ◌++◌, Result}
use Rattle.numbers.specs.Library.{ℕ, zero, suc, refl, sym, ◌∙◌, List, [], append_assoc, append-nil, arith, length, length-append}
use Rattle.numbers.specs.Library.{dec_lt}
use lib.Seq.{take_at, drop_at}
use Rattle.numbers.specs.Prelude.{most_rows}
use Rattle.rows.specs.Prelude.{rows, rows_fit, fit_rows, put, put_part, put-short}
use Rattle.numbers.specs.declared.refusal.Refusal.{Refusal}
use Rattle.rows.specs.declared.{header.Header.Header, live.Live.Live}
use Rattle.rules.specs.Prelude.{Outcome, refused, gives, ListIn, Value, live_numbers}
use Rattle.promises.specs.Prelude.{records, written, items_told, filled, Lists}
use Rattle.promises.proofs.Cases.{said_so}
use Rattle.promises.proofs.Outcomes.{one_list}
use Rattle.surface_list.specs.Lives.{laid, items_of, ListsLives}

-- the numbers of the records, one after the other
unfoldable pub numbers_in : List Live → List ℕ
unfolding live_numbers
numbers_in [] = []
numbers_in (l ∷ ls) = live_numbers l ++ numbers_in ls

six : (out : List Live) → length (numbers_in out) ≡ length out * 6
unfolding numbers_in live_numbers
six [] = refl
six (l ∷ out) = omega (arith, six out)

-- so many records they are
rows_in : (out : List Live) → length out ≤ most_rows → rows records (numbers_in out) ≡ length out
unfolding records
rows_in out few = omega (arith, no_more (dec_lt (length out) (rows records (numbers_in out))), no_less (length out) refl few) where
  no_more : Dec (length out < rows records (numbers_in out)) → rows records (numbers_in out) ≤ length out
  no_more (yes b) = omega (arith, rows_fit records (numbers_in out) (length out) b, six out)
  no_more (no n) = omega arith

  no_less : (n : ℕ) → length out ≡ n → n ≤ most_rows → n ≤ rows records (numbers_in out)
  no_less zero e b = omega arith
  no_less (suc n) e b = fit_rows records (numbers_in out) n (omega arith) (omega (arith, six out))

-- where there is no record, none is written
none_written : (ls : List Live) (k : ℕ) (t : List ℕ) → length t < k * 6 + 6 → written k ls t ≡ t
unfolding written records
none_written [] k t short = refl
none_written (l ∷ ls) k t short = rw (← (put-short records t k l short)) (none_written ls (suc k) t (omega arith))

-- the record after k others, whose numbers are t
one_written : (t : List ℕ) (k : ℕ) → length t ≡ k * 6 → k < most_rows → (l o : Live) (u : List ℕ) → put records (t ++ (live_numbers o ++ u)) k l ≡ t ++ (live_numbers l ++ u)
unfolding records live_numbers
one_written t k before b l o u =
    let e : k * 6 + 6 - k * 6 ≡ 6 = omega arith in
    sym (put_part records (t ++ (live_numbers o ++ u)) k l b (omega (arith, before, length-append t (live_numbers o ++ u))))
    ∙ rw (e, take_at t (live_numbers o ++ u) (k * 6) before, drop_at t (live_numbers o ++ u) (k * 6) before)

-- and all of them
all_written : (ls out : List Live) (k : ℕ) (t : List ℕ) → length t ≡ k * 6 → k + length out ≤ most_rows → written k ls (t ++ numbers_in out) ≡ t ++ numbers_in (laid ls out)
unfolding written laid numbers_in
all_written [] out k t before b = refl
all_written (l ∷ ls) [] k t before b = rw append-nil (none_written (l ∷ ls) k t (omega arith))
all_written (l ∷ ls) (o ∷ out) k t before b =
    rw (one_written t k before (omega arith) l o (numbers_in out), ← (append_assoc t (live_numbers l) (numbers_in out)), ← (append_assoc t (live_numbers l) (numbers_in (laid ls out))))
    (all_written ls out (suc k) (t ++ live_numbers l) (omega (arith, before, length-append t (live_numbers l))) (omega arith))

as_filled : (out : List Live) → length out ≤ most_rows → (o : Outcome Value) → numbers_in (laid (items_of o) out) ≡ filled (numbers_in out) o
unfolding laid items_of filled
as_filled out few (refused n) = refl
as_filled out few (gives v) = sym (all_written (items_told v) out 0 [] refl (omega arith))

module _ (h : Header) (S I : List ℕ) (out out' : List Live) (few : length out ≤ most_rows) (r : Result ℕ Refusal) (lives : ListsLives h S I out r out') where
  pub as_numbers : Lists h S I (numbers_in out) r (numbers_in out')
  unfolding Lists ListsLives
  as_numbers =
      rw (rows_in out few)
      (said_so (ListIn (length out)) h S I h S I (λ o s. record { answers = s.answers; listed = rw s.listed (as_filled out few o) }) lives)

  pub agrees : (r₂ : Result ℕ Refusal) (out₂ : List ℕ) → Lists h S I (numbers_in out) r₂ out₂ → (r ≡ r₂) × (numbers_in out' ≡ out₂)
  agrees r₂ out₂ = one_list h S I (numbers_in out) (numbers_in out') out₂ r r₂ as_numbers
