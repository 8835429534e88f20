-- Numbers and lines as text, in bytes. Assumes nothing.
use Rattle.std.specs.Prelude.{◌+◌, ◌/◌, ◌%◌, ◌∷◌, ◌++◌}
use Rattle.numbers.specs.Library.{ℕ, zero, suc, List, [], ltb}
use Rattle.numbers.specs.Prelude.{pick}

-- n's digits, '0' to '9', the most significant first; the first argument bounds their count
unfoldable pub spell : ℕ → ℕ → List ℕ
spell zero n = []
spell (suc k) n = pick (ltb n 10) ((48 + n) ∷ []) (spell k (n / 10) ++ ((48 + n % 10) ∷ []))

-- n in decimal: no number has more digits than n + 1
unfoldable pub decimal : ℕ → List ℕ
decimal n = spell (suc n) n

-- numbers, with a space before each
unfoldable pub spaced : List ℕ → List ℕ
spaced [] = []
spaced (n ∷ ns) = 32 ∷ (decimal n ++ spaced ns)

-- a word and numbers, and a newline
unfoldable pub line : List ℕ → List ℕ → List ℕ
line word numbers = word ++ (spaced numbers ++ (10 ∷ []))
