-- The answers as the promises read them: what each says, its numbers, and that no two say the same. Assumes nothing.
use Rattle.std.specs.Prelude.{◌≡◌, Result, Ok, Err}
use Rattle.numbers.specs.Library.{ℕ, List, Bool, refl, sym, ap, arith}
use Rattle.numbers.specs.Prelude.{same_number}
use Rattle.numbers.specs.declared.refusal.Refusal.{Refusal}
use Rattle.rows.specs.declared.live.Live.{Live}
use Rattle.rules.specs.Prelude.{Outcome, refused, gives, Value, columns_made, done, count, area, sides, vacant, live_numbers, Answering}
use Rattle.rules.specs.Step.{item}
use Rattle.promises.specs.Answers.{says, numbers_of, one_number, no_number, side_numbers, truth_number}
use Rattle.promises.specs.declared.answers.Sides.{Sides}

-- a refusal is no success
pub differ : {V : Type 0} {n : ℕ} {v : V} → ◌≡◌ {A = Outcome V} (refused n) (gives v) → ⊥
differ e = let z : ◌≡◌ {A = ℕ} 0 1 = cc in omega arith

-- where no two values say the same, no two answers do: no two refusals have the same number
pub apart : {T V : Type 0} (value : T → V) → ((t u : T) → value t ≡ value u → t ≡ u) → (r s : Result T Refusal) → says value r ≡ says value s → r ≡ s
unfolding says
apart value same (Ok t) (Ok u) e = ap Ok (same t u (cc))
apart value same (Ok t) (Err f) e = absurd (differ (sym e))
apart value same (Err f) (Ok t) e = absurd (differ e)
apart value same (Err f) (Err g) e = ap Err (same_number f g (cc))

-- answers of which a success says `value`, and tells `numbers` after its 0, as many as the zeros beside a refusal's number
abbrev pub answering : {T : Type 0} (value : T → Value) → (T → List ℕ) → ℕ → ((t u : T) → value t ≡ value u → t ≡ u) → Answering (Result T Refusal)
answering value numbers besides same = record { says = says value; numbers = numbers_of numbers besides; apart = apart value same }

pub same_sides : (s t : Sides) → sides s.width s.height ≡ sides t.width t.height → s ≡ t
same_sides s t e = let w : s.width ≡ t.width = cc in let h : s.height ≡ t.height = cc in λ z. record { width = w z; height = h z }

-- the columns that are made
unfoldable pub creations : Answering (Result ℕ Refusal)
creations = answering columns_made one_number 1 (λ t u e. cc)

unfoldable pub grants : Answering (Result Live Refusal)
unfolding live_numbers
grants = answering item live_numbers 6 (λ t u e. cc)

unfoldable pub replies : Answering (Result (Unit {0}) Refusal)
replies = answering (λ t. done) no_number 0 (λ t u e. refl)

-- occupied and free space
unfoldable pub areas : Answering (Result ℕ Refusal)
areas = answering area one_number 1 (λ t u e. cc)

unfoldable pub extents : Answering (Result Sides Refusal)
extents = answering (λ (s : Sides). sides s.width s.height) side_numbers 2 same_sides

unfoldable pub vacancies : Answering (Result Bool Refusal)
vacancies = answering vacant truth_number 1 (λ t u e. cc)

-- how many items are listed
unfoldable pub listings : Answering (Result ℕ Refusal)
listings = answering count one_number 1 (λ t u e. cc)
