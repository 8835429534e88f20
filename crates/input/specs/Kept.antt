-- What the program keeps of a line: its first 81 bytes, one more than a command can have. Nothing more is needed, as a longer line is no command
-- whatever its bytes are. Assumes nothing.
use Rattle.std.specs.Prelude.{◌≤◌, ◌≡◌, ◌∷◌, ◌++◌}
use Rattle.numbers.specs.Library.{ℕ, zero, suc, arith, Bool, true, false, refl, sym, ap, ◌∙◌, List, [], map, eqb, length, take}
use Rattle.numbers.specs.Library.{length-take, take_all}
use Rattle.std.proofs.Math.Decide.{dec_le}
use Rattle.std.proofs.lemmas.List.{map-append}
use Rattle.numbers.specs.Prelude.{pick}
use Rattle.lines.specs.Line.{command_of}
use Rattle.lines.proofs.Words.{long_line}
use Rattle.input.specs.Lines.{ended, left, ended_append, left_append}

-- the bytes of a line that are kept
unfoldable pub short : List ℕ → List ℕ
short line = take 81 line

-- the lines that end in a piece, as they are kept
unfoldable pub ended_short : List ℕ → List ℕ → List (List ℕ)
unfolding short ended
ended_short kept piece = map short (ended kept piece)

-- ---- keeping 81 bytes is enough

-- of a front that is cut off, the same stays, whatever comes after it
take-front : (n : ℕ) (k b : List ℕ) → take n (take n k ++ b) ≡ take n (k ++ b)
take-front zero k b = refl
take-front (suc n) [] b = refl
take-front (suc n) (c ∷ k) b = ap (λ (l : List ℕ). c ∷ l) (take-front n k b)

pub short_then : (k b : List ℕ) → short (short k ++ b) ≡ short (k ++ b)
unfolding short
short_then k b = take-front 81 k b

pub short_short : (k : List ℕ) → short (short k) ≡ short k
unfolding short
short_short k = take_all 81 (take 81 k) (omega (arith, length-take 81 k))

-- a line as it is kept is the same command
pub same_command : (line : List ℕ) → command_of (short line) ≡ command_of line
unfolding short
same_command line = go (dec_le (length line) 80) where
  go : Dec (length line ≤ 80) → command_of (take 81 line) ≡ command_of line
  go (yes h) = ap command_of (take_all 81 line (omega arith))
  go (no h) = long_line (take 81 line) (omega (arith, length-take 81 line)) ∙ sym (long_line line (omega arith))

-- what is kept of a line decides what is kept of the lines after it
pub ended_kept : (k s : List ℕ) → ended_short (short k) s ≡ ended_short k s
unfolding ended_short ended
ended_kept k [] = refl
ended_kept k (c ∷ s) = byte (eqb c 10) (ended_kept (short k ++ (c ∷ [])) s) (ended_kept (k ++ (c ∷ [])) s) where
  byte : (b : Bool) → ended_short (short (short k ++ (c ∷ []))) s ≡ ended_short (short k ++ (c ∷ [])) s
      → ended_short (short (k ++ (c ∷ []))) s ≡ ended_short (k ++ (c ∷ [])) s
      → map short (pick b (short k ∷ ended [] s) (ended (short k ++ (c ∷ [])) s)) ≡ map short (pick b (k ∷ ended [] s) (ended (k ++ (c ∷ [])) s))
  byte true more most = ap (λ (l : List ℕ). l ∷ map short (ended [] s)) (short_short k)
  byte false more most = sym more ∙ ap (λ (l : List ℕ). ended_short l s) (short_then k (c ∷ [])) ∙ most

pub left_kept : (k s : List ℕ) → short (left (short k) s) ≡ short (left k s)
unfolding left
left_kept k [] = short_short k
left_kept k (c ∷ s) = byte (eqb c 10) (left_kept (short k ++ (c ∷ [])) s) (left_kept (k ++ (c ∷ [])) s) where
  byte : (b : Bool) → short (left (short (short k ++ (c ∷ []))) s) ≡ short (left (short k ++ (c ∷ [])) s)
      → short (left (short (k ++ (c ∷ []))) s) ≡ short (left (k ++ (c ∷ [])) s)
      → short (pick b (left [] s) (left (short k ++ (c ∷ [])) s)) ≡ short (pick b (left [] s) (left (k ++ (c ∷ [])) s))
  byte true more most = refl
  byte false more most = sym more ∙ ap (λ (l : List ℕ). short (left l s)) (short_then k (c ∷ [])) ∙ most

-- ---- two pieces are one, as they are kept

pub short_append : (k a b m : List ℕ) → short (left k a) ≡ m → ended_short k (a ++ b) ≡ ended_short k a ++ ended_short m b
unfolding ended_short
short_append k a b m e =
    ap (map short) (ended_append k a b) ∙ map-append short (ended k a) (ended (left k a) b)
    ∙ ap (λ (ls : List (List ℕ)). ended_short k a ++ ls) (sym (ended_kept (left k a) b) ∙ ap (λ (l : List ℕ). ended_short l b) e)

pub left_short_append : (k a b m : List ℕ) → short (left k a) ≡ m → short (left k (a ++ b)) ≡ short (left m b)
left_short_append k a b m e =
    ap short (left_append k a b) ∙ sym (left_kept (left k a) b) ∙ ap (λ (l : List ℕ). short (left l b)) e
