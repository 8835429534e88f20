-- What list promises of a lent list of live records: what it promises of a lent list of their numbers (`Lists` of `promises`). Assumes nothing.
use Rattle.std.specs.Prelude.{◌≡◌, ◌∷◌, Result}
use Rattle.numbers.specs.Library.{ℕ, List, [], length}
use Rattle.numbers.specs.declared.refusal.Refusal.{Refusal}
use Rattle.rows.specs.declared.{header.Header.Header, live.Live.Live}
use Rattle.rules.specs.Prelude.{Outcome, refused, gives, Call, ListIn, Value, Answers, Promise}
use Rattle.promises.specs.Prelude.{listings, items_told, counted}

-- The items laid over the first records, as far as there are any. "Records past the last stay as they were."
unfoldable pub laid : List Live → List Live → List Live
laid [] out = out
laid (l ∷ ls) [] = []
laid (l ∷ ls) (o ∷ out) = l ∷ laid ls out

-- the items that are told: none where the list is refused
unfoldable pub items_of : Outcome Value → List Live
unfolding items_told
items_of (refused n) = []
items_of (gives v) = items_told v

-- the answer is the count of the items, which stand in the lent list `out`, and `out'` is that list after the call
pub record LivesSo (call : Call) (out : List Live) (r : Result ℕ Refusal) (out' : List Live) (o : Outcome Value) : Type 0 where
  pub answers : Answers listings call r (counted o)
  pub listed : out' ≡ laid (items_of o) out

unfoldable pub ListsLives : (h : Header) (S I : List ℕ) (out : List Live) (r : Result ℕ Refusal) (out' : List Live) → Type 0
ListsLives h S I out r out' = Promise (ListIn (length out)) (LivesSo (ListIn (length out)) out r out') h S I h S I
