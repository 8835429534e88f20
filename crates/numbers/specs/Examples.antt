-- The examples that document 01 marks to be proved: one table, one statement. Assumes nothing.
use Rattle.std.specs.Prelude.{◌-◌, ◌≡◌, ◌∷◌}
use Rattle.numbers.specs.Library.{ℕ, refl, List, [], map, ltb}
use Rattle.numbers.specs.Pick.{pick}
use Rattle.numbers.specs.Round.{round_up}
use Rattle.numbers.specs.Bands.{depth_step, shelf_height}
use Rattle.numbers.specs.Fit.{large_enough_to_split, good_fit_to}
use Rattle.numbers.specs.Limits.{shelf_width_of, columns_of}

pub data Question : Type 0 where
  -- D of a depth, in an atlas of depth H
  depth_in : (atlasDepth depth : ℕ) → Question
  -- S and C of an atlas of width W, so many columns, and an alignment
  shelf_width : (width columns step : ℕ) → Question
  shelf_columns : (width columns step : ℕ) → Question
  -- whether a used shelf is a bad fit for D: 1 if it is
  bad_fit : (depth shelf : ℕ) → Question
  -- what is split off an empty shelf for D: 0 if nothing is
  shelf_left : (depth shelf : ℕ) → Question
  -- what is granted of a free item for a width and an alignment, and what is split off
  width_got : (step width item : ℕ) → Question
  width_left : (step width item : ℕ) → Question

-- what of a place of some size goes to a request, and what is split off
got : ℕ → ℕ → ℕ
got asked there = pick (large_enough_to_split asked there) asked there

left : ℕ → ℕ → ℕ
unfolding got
left asked there = there - got asked there

pub answer : Question → ℕ
unfolding round_up depth_step shelf_height good_fit_to shelf_width_of columns_of got left
answer (depth_in atlasDepth depth) = shelf_height atlasDepth depth
answer (shelf_width width columns step) = shelf_width_of width columns step
answer (shelf_columns width columns step) = columns_of width (shelf_width_of width columns step)
answer (bad_fit depth shelf) = pick (ltb (good_fit_to depth) shelf) 1 0
answer (shelf_left depth shelf) = left depth shelf
answer (width_got step width item) = got (round_up step width) item
answer (width_left step width item) = left (round_up step width) item

pub record Example : Type 0 where
  pub ask : Question
  pub says : ℕ

infix 70 ◌gives◌
pub ◌gives◌ : Question → ℕ → Example
question gives number = record { ask = question; says = number }

pub examples : List Example
examples =
    depth_in 2048 31 gives 32
    ∷ depth_in 2048 32 gives 32
    ∷ depth_in 2048 33 gives 48
    ∷ depth_in 2048 127 gives 128
    ∷ depth_in 2048 129 gives 160
    ∷ depth_in 2048 511 gives 512
    ∷ depth_in 2048 513 gives 576
    ∷ depth_in 1000 961 gives 961
    ∷ shelf_width 100 7 8 gives 8
    ∷ shelf_columns 100 7 8 gives 12
    ∷ bad_fit 48 72 gives 0
    ∷ bad_fit 48 73 gives 1
    ∷ shelf_left 32 40 gives 0
    ∷ shelf_left 32 41 gives 9
    ∷ width_got 1 92 100 gives 100
    ∷ width_left 1 91 100 gives 9
    ∷ []

-- each answer is the one that the document gives
pub examples_hold : map (λ (e : Example). answer e.ask) examples ≡ map (λ (e : Example). e.says) examples
unfolding answer examples ◌gives◌
examples_hold = refl
