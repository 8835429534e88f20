-- When a place is split, and when a shelf in use is a bad fit. Assumes nothing.
use Rattle.std.specs.Prelude.{◌+◌, ◌/◌}
use Rattle.numbers.specs.Library.{ℕ, min, Bool, ltb}

-- a place more than 8 larger than what is asked is split: a shelf by its depth, an item by its width
abbrev pub large_enough_to_split : ℕ → ℕ → Bool
large_enough_to_split asked there = ltb (asked + 8) there

-- a shelf in use deeper than this is a bad fit: the depth and half of it, halves dropped, 65535 at most
unfoldable pub good_fit_to : ℕ → ℕ
good_fit_to d = min (d + d / 2) 65535
