-- Numbers of 16 bits, words here, and their bytes. Assumes nothing.
use Rattle.std.specs.Prelude.{◌+◌, ◌*◌, ◌/◌, ◌%◌, ◌++◌, ◌∷◌}
use Rattle.numbers.specs.Library.{ℕ, List, [], length, drop}

-- "Numbers little-endian." A number of more than 16 bits has no bytes: what would be its second byte is 256 or more.
unfoldable pub bytes_of : List ℕ → List ℕ
bytes_of [] = []
bytes_of (w ∷ ws) = (w % 256) ∷ (w / 256) ∷ bytes_of ws

-- the words of bytes; a last byte that stands alone is in none
unfoldable pub words_of : List ℕ → List ℕ
words_of [] = []
words_of (low ∷ []) = []
words_of (low ∷ high ∷ bytes) = (low + 256 * high) ∷ words_of bytes

unfoldable pub total : List ℕ → ℕ
total [] = 0
total (w ∷ ws) = w + total ws

-- a list written over from its front on; what lies past that stays as it was
abbrev pub over : (new old : List ℕ) → List ℕ
over new old = new ++ drop (length new) old
