-- The lines of an input, and the same lines where the input comes in pieces. Assumes nothing.
use Rattle.std.specs.Prelude.{◌≡◌, ◌∷◌, ◌++◌}
use Rattle.numbers.specs.Library.{ℕ, Bool, true, false, refl, sym, ap, ◌∙◌, List, [], append-nil, eqb}
use Rattle.numbers.specs.Prelude.{pick}
use Rattle.lines.specs.Line.{on_first}

-- A line ends at a newline, which is no part of it; what stands after the last newline is a line if it has a byte.
unfoldable pub lines_of : List ℕ → List (List ℕ)
lines_of [] = []
lines_of (c ∷ cs) = pick (eqb c 10) ([] ∷ lines_of cs) (on_first c (lines_of cs))

-- ---- piece by piece: `kept` is what was read of the line in which the piece starts

-- the lines that end in the piece
unfoldable pub ended : List ℕ → List ℕ → List (List ℕ)
ended kept [] = []
ended kept (c ∷ cs) = pick (eqb c 10) (kept ∷ ended [] cs) (ended (kept ++ (c ∷ [])) cs)

-- what was then read of the next line
unfoldable pub left : List ℕ → List ℕ → List ℕ
left kept [] = kept
left kept (c ∷ cs) = pick (eqb c 10) (left [] cs) (left (kept ++ (c ∷ [])) cs)

-- the line of an input that is over: none, where nothing was read of it
abbrev pub last : List ℕ → List (List ℕ)
last [] = []
last (c ∷ cs) = (c ∷ cs) ∷ []

-- the lines that end in the pieces one after another, and the last
unfoldable pub read_in : List ℕ → List (List ℕ) → List (List ℕ)
unfolding ended left
read_in kept [] = last kept
read_in kept (p ∷ ps) = ended kept p ++ read_in (left kept p) ps

abbrev pub whole : List (List ℕ) → List ℕ
whole [] = []
whole (p ∷ ps) = p ++ whole ps

-- ---- however an input is cut into pieces, they give its lines

-- the lines after `kept`, whose bytes stand before the first of them
onto : List ℕ → List (List ℕ) → List (List ℕ)
onto [] ls = ls
onto (c ∷ k) ls = on_first c (onto k ls)

onto_line : (k : List ℕ) (ls : List (List ℕ)) → onto k ([] ∷ ls) ≡ k ∷ ls
unfolding onto
onto_line [] ls = refl
onto_line (c ∷ k) ls = rw (onto_line k ls)

onto_byte : (k : List ℕ) (c : ℕ) (ls : List (List ℕ)) → onto (k ++ (c ∷ [])) ls ≡ onto k (on_first c ls)
unfolding onto
onto_byte [] c ls = refl
onto_byte (d ∷ k) c ls = ap (on_first d) (onto_byte k c ls)

onto_last : (k : List ℕ) → last k ≡ onto k []
unfolding onto
onto_last [] = refl
onto_last (c ∷ []) = refl
onto_last (c ∷ d ∷ k) = rw (← onto_last (d ∷ k))

-- one piece before others that are read so
piece_onto : (k p : List ℕ) (ps : List (List ℕ)) → ((m : List ℕ) → read_in m ps ≡ onto m (lines_of (whole ps)))
    → ended k p ++ read_in (left k p) ps ≡ onto k (lines_of (p ++ whole ps))
unfolding lines_of ended left onto
piece_onto k [] ps rest = rest k
piece_onto k (c ∷ cs) ps rest = byte (eqb c 10) (piece_onto [] cs ps rest) (piece_onto (k ++ (c ∷ [])) cs ps rest) where
  byte : (b : Bool) → ended [] cs ++ read_in (left [] cs) ps ≡ onto [] (lines_of (cs ++ whole ps))
      → ended (k ++ (c ∷ [])) cs ++ read_in (left (k ++ (c ∷ [])) cs) ps ≡ onto (k ++ (c ∷ [])) (lines_of (cs ++ whole ps))
      → pick b (k ∷ ended [] cs) (ended (k ++ (c ∷ [])) cs) ++ read_in (pick b (left [] cs) (left (k ++ (c ∷ [])) cs)) ps
      ≡ onto k (pick b ([] ∷ lines_of (cs ++ whole ps)) (on_first c (lines_of (cs ++ whole ps))))
  byte true fresh more = ap (λ (ls : List (List ℕ)). k ∷ ls) fresh ∙ sym (onto_line k _)
  byte false fresh more = more ∙ onto_byte k c _

read_onto : (k : List ℕ) (pieces : List (List ℕ)) → read_in k pieces ≡ onto k (lines_of (whole pieces))
unfolding read_in lines_of
read_onto k [] = onto_last k
read_onto k (p ∷ ps) = piece_onto k p ps (λ (m : List ℕ). read_onto m ps)

pub every_way : (pieces : List (List ℕ)) → read_in [] pieces ≡ lines_of (whole pieces)
unfolding onto
every_way pieces = read_onto [] pieces

-- ---- two pieces are one

pub ended_append : (k a b : List ℕ) → ended k (a ++ b) ≡ ended k a ++ ended (left k a) b
unfolding ended left
ended_append k [] b = refl
ended_append k (c ∷ a) b = byte (eqb c 10) (ended_append [] a b) (ended_append (k ++ (c ∷ [])) a b) where
  byte : (t : Bool) → ended [] (a ++ b) ≡ ended [] a ++ ended (left [] a) b
      → ended (k ++ (c ∷ [])) (a ++ b) ≡ ended (k ++ (c ∷ [])) a ++ ended (left (k ++ (c ∷ [])) a) b
      → pick t (k ∷ ended [] (a ++ b)) (ended (k ++ (c ∷ [])) (a ++ b))
      ≡ pick t (k ∷ ended [] a) (ended (k ++ (c ∷ [])) a) ++ ended (pick t (left [] a) (left (k ++ (c ∷ [])) a)) b
  byte true fresh more = ap (λ (ls : List (List ℕ)). k ∷ ls) fresh
  byte false fresh more = more

pub left_append : (k a b : List ℕ) → left k (a ++ b) ≡ left (left k a) b
unfolding left
left_append k [] b = refl
left_append k (c ∷ a) b = byte (eqb c 10) (left_append [] a b) (left_append (k ++ (c ∷ [])) a b) where
  byte : (t : Bool) → left [] (a ++ b) ≡ left (left [] a) b → left (k ++ (c ∷ [])) (a ++ b) ≡ left (left (k ++ (c ∷ [])) a) b
      → pick t (left [] (a ++ b)) (left (k ++ (c ∷ [])) (a ++ b)) ≡ left (pick t (left [] a) (left (k ++ (c ∷ [])) a)) b
  byte true fresh more = fresh
  byte false fresh more = more

-- at the end of an input, a newline ends the line that was left; where none was left, all lines have ended
pub lines_ended : (s : List ℕ) → lines_of s ≡ ended [] s ++ last (left [] s)
unfolding onto read_in
lines_ended s = ap lines_of (sym (append-nil s)) ∙ sym (read_onto [] (s ∷ []))
