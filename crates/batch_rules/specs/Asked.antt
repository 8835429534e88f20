-- Requests and answers as numbers: three to a request, seven to an answer; the call that a request is, and what is told of its outcome. Assumes nothing.
use Rattle.std.specs.Prelude.{◌≡◌, ◌∷◌, Result, Ok, Err}
use Rattle.numbers.specs.Library.{ℕ, refl, List, [], pos, lit<, get_or, eqb}
use Rattle.numbers.specs.Prelude.{pick, refusal_number}
use Rattle.numbers.specs.declared.refusal.Refusal.{Refusal}
use Rattle.rows.specs.Prelude.{each_all, Shape}
use Rattle.rows.specs.declared.live.Live.{Live}
use Rattle.rules.specs.Prelude.{Outcome, refused, gives, Call, Allocate, Release, LookUp, Unreadable, Value, columns_made, done, items, count, area, space, sides, vacant}
use Rattle.rules.specs.Step.{item}
use Rattle.batch_rules.specs.declared.{values.Asking.Asking, values.Told.Told}

unfoldable pub askings : Shape Asking
askings = record {
  width = 3;
  some = lit< tt;
  numbers = λ q. q.kind ∷ q.first ∷ q.second ∷ [];
  value = λ r. record { kind = get_or r 0 0; first = get_or r 1 0; second = get_or r 2 0 };
  long = λ q. refl;
  back = λ q. refl;
  forth = each_all 3;
}

pub three_numbers : askings.width ≡ 3
unfolding askings
three_numbers = refl

abbrev pub told_numbers : Told → List ℕ
told_numbers t = t.answer ∷ t.row ∷ t.generation ∷ t.x0 ∷ t.y0 ∷ t.x1 ∷ t.y1 ∷ []

unfoldable pub tolds : Shape Told
tolds = record {
  width = 7;
  some = lit< tt;
  numbers = told_numbers;
  value = λ r. record { answer = get_or r 0 0; row = get_or r 1 0; generation = get_or r 2 0; x0 = get_or r 3 0; y0 = get_or r 4 0; x1 = get_or r 5 0; y1 = get_or r 6 0 };
  long = λ t. refl;
  back = λ t. refl;
  forth = each_all 7;
}

pub seven_numbers : tolds.width ≡ 7
unfolding tolds
seven_numbers = refl

-- the call that is asked for; of an unknown kind none is, which is answered with 11
unfoldable pub call_of : Asking → Call
call_of q =
    pick (eqb q.kind 1) (Allocate (pos q.first) (pos q.second))
    (pick (eqb q.kind 2) (Release q.first q.second)
    (pick (eqb q.kind 3) (LookUp q.first q.second) Unreadable))

-- a number alone: 0 for what is done, or a refusal's, with zeros beside it
abbrev pub number : ℕ → Told
number n = record { answer = n; row = 0; generation = 0; x0 = 0; y0 = 0; x1 = 0; y1 = 0 }

-- what is told of an outcome; only an item is told in more than its number
abbrev pub told_of : Outcome Value → Told
told_of (refused n) = number n
told_of (gives (item l)) = record { answer = 0; row = l.row; generation = l.generation; x0 = l.x0; y0 = l.y0; x1 = l.x1; y1 = l.y1 }
told_of (gives done) = number 0
told_of (gives (columns_made n)) = number 0
told_of (gives (items ls)) = number 0
told_of (gives (count n)) = number 0
told_of (gives (area n)) = number 0
told_of (gives (space occupied free)) = number 0
told_of (gives (sides w h)) = number 0
told_of (gives (vacant b)) = number 0

-- the answers of the calls, told so
abbrev pub grant_as_told : Result Live Refusal → Told
grant_as_told (Ok l) = record { answer = 0; row = l.row; generation = l.generation; x0 = l.x0; y0 = l.y0; x1 = l.x1; y1 = l.y1 }
grant_as_told (Err e) = number (refusal_number e)

abbrev pub reply_as_told : Result (Unit {0}) Refusal → Told
reply_as_told (Ok t) = number 0
reply_as_told (Err e) = number (refusal_number e)
