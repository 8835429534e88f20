-- What every saved form has in common: blocks of one length, numbered through the image, with the form, the kind and the count of rows in front, and zeros
-- after the data. A form says how much data a block has room for and which check ends it. Assumes nothing.
use Rattle.numbers.specs.Library.{ℕ, zero, suc, List, [], length, take, drop}
use Rattle.std.specs.Prelude.{◌+◌, ◌-◌, ◌*◌, ◌/◌, ◌++◌, ◌∷◌, replicate}
use Rattle.rows.specs.Prelude.{Shape}
use Rattle.chains.specs.Prelude.{gather}

-- A saved form: its number, how many words of data a block has room for, and the words at a block's end, which check all words before them.
pub record Form : Type 0 where
  pub number : ℕ
  pub room : ℕ
  pub check : List ℕ → List ℕ

-- "0-1 block number; 2 form; 3 kind; 4-5 rows": three words, of which bytes 2 and 3 are one
abbrev pub heading : Form → (number kind rows : ℕ) → List ℕ
heading f number kind rows = number ∷ (f.number + 256 * kind) ∷ rows ∷ []

-- "6-509 data, unused zero": the words of a block before its check
unfoldable pub front : Form → (number kind rows : ℕ) → List ℕ → List ℕ
front f number kind rows numbers = heading f number kind rows ++ (numbers ++ replicate (f.room - length numbers) 0)

unfoldable pub block : Form → (number kind rows : ℕ) → List ℕ → List ℕ
unfolding front
block f number kind rows numbers = front f number kind rows numbers ++ f.check (front f number kind rows numbers)

-- the first n of a row of pieces, one after the other
abbrev pub up_to : (ℕ → List ℕ) → ℕ → List ℕ
up_to piece zero = []
up_to piece (suc b) = up_to piece b ++ piece b

-- A kind of blocks that hold rows: its number, how many rows a block has at most, and what a row's numbers are.
pub record Kind (A : Type 0) : Type 0 where
  pub number : ℕ
  pub most : ℕ
  pub shape : Shape A

-- how many blocks so many rows take
unfoldable pub block_count : (most rows : ℕ) → ℕ
block_count most rows = (rows + (most - 1)) / most

module _ {A : Type 0} (f : Form) (k : Kind A) where
  -- the rows of block b of the kind: "only a kind's last block may be short"
  abbrev pub rows_of_block : List A → ℕ → List A
  rows_of_block rs b = take k.most (drop (b * k.most) rs)

  -- block b of the kind, whose block 0 is block `first` of the image
  unfoldable pub rows_block : (first : ℕ) → List A → ℕ → List ℕ
  unfolding block
  rows_block first rs b = block f (first + b) k.number (length (rows_of_block rs b)) (gather k.shape.numbers (rows_of_block rs b))

  -- all blocks of the kind
  unfoldable pub blocks_of : (first : ℕ) → List A → List ℕ
  unfolding rows_block block_count
  blocks_of first rs = up_to (rows_block first rs) (block_count k.most (length rs))
