-- The rows of a table as the blocks of a kind, in numbers alone, as code writes and reads them: which numbers of the table stand in which block.
-- Assumes nothing.
use Rattle.std.specs.Prelude.{◌+◌, ◌-◌, ◌*◌, ◌≤◌, ◌<◌, ◌≡◌, ◌++◌}
use Rattle.numbers.specs.Library.{ℕ, min, List, length, take, drop}
use Rattle.image_form.specs.Bytes.{over}
use Rattle.image_form.specs.Blocks.{Kind, block}
use Rattle.image_form.specs.Form1.{form1}
use Rattle.blocks.specs.Right.{BlockRight}
use Rattle.row_blocks.specs.declared.Layout.{Layout}

-- the layout of a kind
unfoldable pub layout_of : {A : Type 0} → Kind A → Layout
layout_of k = record { kind = k.number; most = k.most; width = k.shape.width }

-- what `used` rows in n blocks from block `first` of an image on have to do with each other: they all have room and each block has a row, no block has
-- more numbers than it has room for, and numbers and rows fit their fields
pub record Laid (k : Layout) (first used n : ℕ) : Type 0 where
  pub kind_fits : k.kind < 256
  pub rows_fit : k.most * k.width ≤ 252
  pub all_held : used ≤ n * k.most
  pub each_some : n * k.most < used + k.most
  pub few_rows : used < 65536
  pub few_blocks : first + n < 65536

-- block b of those from block `first` on has r rows and is there in an image, and what it holds fits
pub record There (k : Layout) (first b r : ℕ) (image : List ℕ) : Type 0 where
  pub kind_fits : k.kind < 256
  pub number_fits : first + b < 65536
  pub rows_fit : r < 65536
  pub held : r * k.width ≤ 252
  pub few_before : b * k.most < 65536
  pub inside : b * 512 + 512 ≤ length image

-- a list written over from a place on
unfoldable pub over_from : (at : ℕ) → (new old : List ℕ) → List ℕ
over_from at new old = take at old ++ over new (drop at old)

-- of the words that are met, the first `count` numbers that stand in block b; and that this block is right, with r rows
abbrev pub standing : (b count : ℕ) → List ℕ → List ℕ
standing b count words = take count (drop 3 (take 256 (drop (b * 256) words)))

unfoldable pub RightAt : Layout → (first b r : ℕ) → List ℕ → Type 0
unfolding BlockRight
RightAt k first b r words = BlockRight (first + b) k.kind r (r * k.width) (take 256 (drop (b * 256) words))

module _ (k : Layout) (used : ℕ) where
  -- how many rows block b of the kind has, and how many numbers
  unfoldable pub rows_in_of : ℕ → ℕ
  rows_in_of b = min k.most (used - b * k.most)

  unfoldable pub numbers_held : ℕ → ℕ
  unfolding rows_in_of
  numbers_held b = rows_in_of b * k.width

  -- block b has r rows, whose numbers have room in a block, and stand in the table among those of the used rows
  pub record Rows (b r : ℕ) : Type 0 where
    pub are : r ≡ rows_in_of b
    pub passed : b * k.most ≤ used
    pub few : r ≤ used
    pub held : r * k.width ≤ 252
    pub ends : b * k.most * k.width + r * k.width ≤ used * k.width

  -- block b of a table's rows
  unfoldable pub table_block : (first : ℕ) → List ℕ → (b : ℕ) → List ℕ
  unfolding block form1 rows_in_of numbers_held
  table_block first table b = block form1 (first + b) k.kind (rows_in_of b) (take (numbers_held b) (drop (b * k.most * k.width) table))

  -- all of n blocks that are met are right
  unfoldable pub AllRight : (first n : ℕ) → List ℕ → Type 0
  unfolding RightAt rows_in_of
  AllRight first n words = (b : ℕ) → b < n → RightAt k first b (rows_in_of b) words

  -- the numbers that stand in block b of those that are met
  unfoldable pub held_in_of : List ℕ → (b : ℕ) → List ℕ
  unfolding rows_in_of numbers_held
  held_in_of words b = standing b (numbers_held b) words
