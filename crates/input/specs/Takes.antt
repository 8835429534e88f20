-- What is taken of a piece of the input: the rest of one line, as far as the piece has it. Assumes nothing.
use Rattle.std.specs.Prelude.{◌≤◌, ◌≡◌, ◌∷◌, Option, Some, None}
use Rattle.numbers.specs.Library.{ℕ, List, [], length, take}
use Rattle.input.specs.Lines.{left}
use Rattle.input.specs.Kept.{short, ended_short}

-- `kept` was kept of the line before these bytes. They end it, and as `line` it is kept; nothing stands after it.
pub record Ends (kept bytes line : List ℕ) : Type 0 where
  pub ends : ended_short kept bytes ≡ line ∷ []
  pub nothing : short (left kept bytes) ≡ []

-- They end no line, and `line` is kept after them.
pub record GoesOn (kept bytes line : List ℕ) : Type 0 where
  pub none : ended_short kept bytes ≡ []
  pub formed : short (left kept bytes) ≡ line

-- the first n bytes of the piece end a line, or all of them end none
abbrev pub Takes : List ℕ → List ℕ → List ℕ → Option ℕ → Type 0
Takes kept piece line (Some n) = Ends kept (take n piece) line × (1 ≤ n) × (n ≤ length piece)
Takes kept piece line None = GoesOn kept piece line
