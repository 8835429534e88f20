-- A lent list of live records: six numbers to a record, in the order of an answer. Assumes nothing.
use Rattle.std.specs.Prelude.{◌∷◌}
use Rattle.numbers.specs.Library.{ℕ, suc, refl, List, [], lit<, length, get_or}
use Rattle.rows.specs.Prelude.{each_all, Shape, put}
use Rattle.rows.specs.declared.live.Live.{Live}
use Rattle.rules.specs.Prelude.{Outcome, refused, gives, mapped, Value, columns_made, done, items, count, area, space, sides, vacant, live_numbers}
use Rattle.rules.specs.Step.{item}
unfoldable pub use Rattle.rows.specs.Live.{records}

-- the items written to the records from record k on. "Records past the last stay as they were."
unfoldable pub written : ℕ → List Live → List ℕ → List ℕ
written k [] out = out
written k (l ∷ ls) out = written (suc k) ls (put records out k l)

-- the items that are told
unfoldable pub items_told : Value → List Live
items_told (items ls) = ls
items_told (columns_made n) = []
items_told (item l) = []
items_told done = []
items_told (count n) = []
items_told (area n) = []
items_told (space occupied free) = []
items_told (sides w h) = []
items_told (vacant b) = []

-- their count, which is returned; and the lent list with them, or as it was where the list is refused
unfoldable pub counted : Outcome Value → Outcome Value
unfolding mapped items_told
counted o = mapped (λ (v : Value). count (length (items_told v))) o

unfoldable pub filled : List ℕ → Outcome Value → List ℕ
unfolding items_told
filled out (refused n) = out
filled out (gives v) = written 0 (items_told v) out
