-- The text of a list: a line for each item, then "end" and the count. Assumes nothing.
use Rattle.std.specs.Prelude.{◌∷◌, ◌++◌}
use Rattle.numbers.specs.Library.{ℕ, List, [], length}
use Rattle.rows.specs.declared.live.Live.{Live}
use Rattle.texts.specs.Answer.{text_of}
use Rattle.texts.specs.declared.answer.Answer.TheVariants as answer

unfoldable pub item_lines : List Live → List ℕ
item_lines [] = []
item_lines (l ∷ ls) = text_of (answer.Listed l) ++ item_lines ls

unfoldable pub list_text : List Live → List ℕ
unfolding item_lines
list_text ls = item_lines ls ++ text_of (answer.End (length ls))
