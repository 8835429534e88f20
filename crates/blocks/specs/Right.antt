-- What is asked of the words of a block that is met. Assumes nothing.
use Rattle.std.specs.Prelude.{◌+◌, ◌-◌, ◌%◌, ◌≡◌}
use Rattle.numbers.specs.Library.{ℕ, List, get_or, take, drop}
use Rattle.image_form.specs.Bytes.{total}
use Rattle.image_form.specs.Blocks.{block}
use Rattle.image_form.specs.Form1.{form1}

-- they are those of the block with this heading and the first `count` words of the data that stand in them
unfoldable pub BlockRight : (number kind rows count : ℕ) → List ℕ → Type 0
unfolding block form1
BlockRight number kind rows count words = words ≡ block form1 number kind rows (take count (drop 3 words))

-- the sum of the words after those, up to the check
abbrev pub unused_sum : (count : ℕ) → List ℕ → ℕ
unused_sum count words = total (take (252 - count) (drop (3 + count) words))

-- the check is that of the words up to those
abbrev pub CheckRight : (count : ℕ) → List ℕ → Type 0
CheckRight count words = total (take (3 + count) words) % 65535 ≡ get_or words 255 0
