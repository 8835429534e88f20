-- What a script line says: a letter, then its numbers, with one space before each. Assumes nothing.
use Rattle.std.specs.Prelude.{◌∷◌, Option, Some, None}
use Rattle.numbers.specs.Library.{ℕ, List, [], length, get_or, eqb, ℤ, pos}
use Rattle.numbers.specs.Prelude.{pick, one_to}
use Rattle.numerals.specs.Numeral.{number_of}
use Rattle.lines.specs.declared.{command.CreateArgs.CreateArgs, command.Command.Command}
use Rattle.lines.specs.declared.command.Command.TheVariants.{Tell, Change}
use Rattle.lines.specs.declared.command.Tell.TheVariants.{Look, Space, List as Listing}
use Rattle.lines.specs.declared.command.Change.TheVariants.{Create, Ask, Release, Clear}

-- ---- words

-- a byte in front of the first word
abbrev pub on_first : ℕ → List (List ℕ) → List (List ℕ)
on_first c [] = (c ∷ []) ∷ []
on_first c (w ∷ ws) = (c ∷ w) ∷ ws

-- what stands between the spaces; two spaces together, or one at an end, leave an empty word
unfoldable pub words : List ℕ → List (List ℕ)
words [] = [] ∷ []
words (c ∷ cs) = pick (eqb c 32) ([] ∷ words cs) (on_first c (words cs))

-- the bytes before the first space
unfoldable pub first_word : List ℕ → List ℕ
first_word [] = []
first_word (c ∷ cs) = pick (eqb c 32) [] (c ∷ first_word cs)

-- ---- numbers

abbrev pub on_numbers : ℤ → Option (List ℤ) → Option (List ℤ)
on_numbers z None = None
on_numbers z (Some zs) = Some (z ∷ zs)

abbrev pub with_number : Option ℤ → Option (List ℤ) → Option (List ℤ)
with_number None ns = None
with_number (Some z) ns = on_numbers z ns

-- all words as numbers, or none where one of them is no number
unfoldable pub numbers_of : List (List ℕ) → Option (List ℤ)
numbers_of [] = Some []
numbers_of (w ∷ ws) = with_number (number_of w) (numbers_of ws)

-- ---- the command

-- alone: s, l, c
unfoldable pub of_none : ℕ → Option Command
of_none letter =
    pick (eqb letter 115) (Some (Tell Space)) (pick (eqb letter 108) (Some (Tell Listing)) (pick (eqb letter 99) (Some (Change Clear)) None))

-- with two numbers: a w h, r row gen, g row gen
unfoldable pub of_two : ℕ → ℤ → ℤ → Option Command
of_two letter x y =
    pick (eqb letter 97) (Some (Change (Ask x y))) (pick (eqb letter 114) (Some (Change (Release x y))) (pick (eqb letter 103) (Some (Tell (Look x y))) None))

-- with six: n
unfoldable pub of_six : ℕ → CreateArgs → Option Command
of_six letter args = pick (eqb letter 110) (Some (Change (Create args))) None

abbrev pub at : List ℤ → ℕ → ℤ
at zs i = get_or zs i (pos 0)

-- n W-raw H-raw align-w align-h vertical columns
unfoldable pub create_args : List ℤ → CreateArgs
create_args zs =
    record { w = at zs 0; h = at zs 1; align_w = at zs 2; align_h = at zs 3; vertical = at zs 4; columns = at zs 5 }

-- a letter and exactly the numbers that it takes
unfoldable pub of_letter : ℕ → List ℤ → Option Command
of_letter letter zs =
    pick (eqb (length zs) 6) (of_six letter (create_args zs))
    (pick (eqb (length zs) 2) (of_two letter (at zs 0) (at zs 1))
    (pick (eqb (length zs) 0) (of_none letter) None))

abbrev pub of_numbers : ℕ → Option (List ℤ) → Option Command
of_numbers letter None = None
of_numbers letter (Some zs) = of_letter letter zs

-- the first word is one letter, the others are its numbers
abbrev pub of_words : List (List ℕ) → Option Command
of_words [] = None
of_words ([] ∷ ws) = None
of_words ((letter ∷ []) ∷ ws) = of_numbers letter (numbers_of ws)
of_words ((c ∷ d ∷ ds) ∷ ws) = None

unfoldable pub said_by : List ℕ → Option Command
said_by line = of_words (words line)

-- a line of 1 to 80 bytes
unfoldable pub command_of : List ℕ → Option Command
command_of line = pick (one_to 80 (length line)) (said_by line) None
