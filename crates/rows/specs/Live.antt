-- What an answer tells of a live item, as six numbers, and a lent list of them. Assumes nothing.
use Rattle.std.specs.Prelude.{◌≡◌, ◌∷◌}
use Rattle.numbers.specs.Library.{ℕ, refl, List, [], lit<, get_or}
use Rattle.rows.specs.declared.live.Live.{Live}
use Rattle.rows.specs.Part.{each_all}
use Rattle.rows.specs.Row.{Shape}

-- in the order of an answer
unfoldable pub live_numbers : Live → List ℕ
live_numbers l = l.row ∷ l.generation ∷ l.x0 ∷ l.y0 ∷ l.x1 ∷ l.y1 ∷ []

unfoldable pub records : Shape Live
unfolding live_numbers
records = record {
  width = 6;
  some = lit< tt;
  numbers = live_numbers;
  value = λ r. record { row = get_or r 0 0; generation = get_or r 1 0; x0 = get_or r 2 0; y0 = get_or r 3 0; x1 = get_or r 4 0; y1 = get_or r 5 0 };
  long = λ l. refl;
  back = λ l. refl;
  forth = each_all 6;
}

pub six_numbers : records.width ≡ 6
unfolding records
six_numbers = refl
