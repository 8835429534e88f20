-- What is not promised, by computed examples. Assumes nothing.
use Rattle.std.specs.Prelude.{◌≡◌, ◌∷◌}
use Rattle.numbers.specs.Library.{ℕ, refl, [], none, pos}
use Rattle.rules.specs.Prelude.{Room, Outcome, gives, Create, Allocate, Release, Value, columns_made, done, run}
use Rattle.rules.specs.Step.{item}

small : Room
small = record { shelves = 8; items = 8 }

at : ℕ → ℕ → ℕ → ℕ → ℕ → ℕ → Outcome Value
at row generation x0 y0 x1 y1 = gives (item (record { row = row; generation = generation; x0 = x0; y0 = y0; x1 = x1; y1 = y1 }))

-- A released id can be granted again: id (0,1) is granted, released, and granted once more.
id_again : run small none (Create (pos 100) (pos 100) (pos 1) (pos 1) (pos 0) (pos 1) ∷ Allocate (pos 10) (pos 10) ∷ Release 0 1 ∷ Allocate (pos 10) (pos 10) ∷ [])
    ≡ gives (columns_made 1) ∷ at 0 1 0 0 10 16 ∷ gives done ∷ at 0 1 0 0 10 16 ∷ []
unfolding run small at
id_again = refl

-- Corners are not aligned across the shelves: with an alignment of 5 there, the second shelf lies at y 8, since depths are rounded to a multiple of 8.
corner_unaligned : run small none (Create (pos 100) (pos 100) (pos 1) (pos 5) (pos 0) (pos 1) ∷ Allocate (pos 10) (pos 5) ∷ Allocate (pos 10) (pos 10) ∷ [])
    ≡ gives (columns_made 1) ∷ at 0 1 0 0 10 8 ∷ at 1 1 0 8 10 24 ∷ []
unfolding run small at
corner_unaligned = refl
