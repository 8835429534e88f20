-- The text of each answer. Assumes nothing.
use Rattle.std.specs.Prelude.{◌∷◌, ◌++◌}
use Rattle.numbers.specs.Library.{ℕ, List, []}
use Rattle.numbers.specs.Prelude.{refusal_number}
use Rattle.rows.specs.declared.live.Live.{Live}
use Rattle.texts.specs.Text.{decimal, line}
use Rattle.texts.specs.declared.answer.Answer.{Answer}
use Rattle.texts.specs.declared.answer.Answer.TheVariants.{Done, Made, Item, Space, Listed, End, No}

-- "row gen x0 y0 x1 y1", an item's line in a list
unfoldable pub live_line : Live → List ℕ
live_line l =
    line (decimal l.row) (l.generation ∷ l.x0 ∷ l.y0 ∷ l.x1 ∷ l.y1 ∷ [])

-- "no N"
abbrev pub refusal_line : ℕ → List ℕ
refusal_line number = line (110 ∷ 111 ∷ []) (number ∷ [])

-- "ok", "ok C", "ok row gen x0 y0 x1 y1", "space occupied free", the lines of a list, "end COUNT", "no N", each with a newline
abbrev pub text_of : Answer → List ℕ
text_of Done = line (111 ∷ 107 ∷ []) []
text_of (Made columns) = line (111 ∷ 107 ∷ []) (columns ∷ [])
text_of (Item l) = (111 ∷ 107 ∷ 32 ∷ []) ++ live_line l
text_of (Space occupied free) = line (115 ∷ 112 ∷ 97 ∷ 99 ∷ 101 ∷ []) (occupied ∷ free ∷ [])
text_of (Listed l) = live_line l
text_of (End count) = line (101 ∷ 110 ∷ 100 ∷ []) (count ∷ [])
text_of (No e) = refusal_line (refusal_number e)
