-- One byte more of a piece, when no line has ended in the bytes before it: `m` is what was kept. Assumes nothing.
use Rattle.std.specs.Prelude.{◌+◌, ◌<◌, ◌≡◌, ◌∷◌, ◌++◌}
use Rattle.numbers.specs.Library.{ℕ, arith, add-one, ap, ◌∙◌, List, [], length, take, get_or, set, length-take, length-append, take-suc}
use Rattle.numbers.specs.Library.{take_all, eq-eqb, ne_eqb}
use lib.Seq.{take-take, take-append-le, take-suc-set}
use Rattle.input.specs.Lines.{ended, left}
use Rattle.input.specs.Kept.{short, ended_short, short_short, short_append, left_short_append}

module _ (kept piece : List ℕ) (i : ℕ) (m : List ℕ) (h : i < length piece)
    (none : ended_short kept (take i piece) ≡ []) (formed : short (left kept (take i piece)) ≡ m) where
  one_more : take (i + 1) piece ≡ take i piece ++ (get_or piece i 0 ∷ [])
  one_more = rw (add-one, take-suc piece i 0 h)

  ended_more : ended_short kept (take (i + 1) piece) ≡ ended_short m (get_or piece i 0 ∷ [])
  ended_more =
      ap (ended_short kept) one_more ∙ short_append kept (take i piece) (get_or piece i 0 ∷ []) m formed
      ∙ ap (λ (ls : List (List ℕ)). ls ++ ended_short m (get_or piece i 0 ∷ [])) none

  left_more : short (left kept (take (i + 1) piece)) ≡ short (left m (get_or piece i 0 ∷ []))
  left_more = ap (λ (s : List ℕ). short (left kept s)) one_more ∙ left_short_append kept (take i piece) (get_or piece i 0 ∷ []) m formed

  pub newline_ends : get_or piece i 0 ≡ 10 → ended_short kept (take (i + 1) piece) ≡ m ∷ []
  unfolding ended_short ended
  newline_ends e = ended_more ∙ simp (eq-eqb (get_or piece i 0) 10 e, ← formed, short_short)

  pub newline_left : get_or piece i 0 ≡ 10 → short (left kept (take (i + 1) piece)) ≡ []
  unfolding left short
  newline_left e = left_more ∙ simp (eq-eqb (get_or piece i 0) 10 e)

  pub byte_ends : (get_or piece i 0 ≡ 10 → ⊥) → ended_short kept (take (i + 1) piece) ≡ []
  unfolding ended_short ended
  byte_ends n = ended_more ∙ simp (ne_eqb (get_or piece i 0) 10 n)

  pub byte_left : (get_or piece i 0 ≡ 10 → ⊥) → short (left kept (take (i + 1) piece)) ≡ short (m ++ (get_or piece i 0 ∷ []))
  unfolding left
  byte_left n = left_more ∙ simp (ne_eqb (get_or piece i 0) 10 n)

-- where there is room a byte is stored, else what is kept stays
pub kept_byte : (line : List ℕ) (have b : ℕ) → length line ≡ 81 → have < 81 → short (take have line ++ (b ∷ [])) ≡ take (have + 1) (set line have b)
unfolding short
kept_byte line have b n h = rw (add-one, take-suc-set line have b (omega arith)) (take_all 81 _ (omega (arith, length-append (take have line) (b ∷ []), length-take have line)))

pub kept_full : (line : List ℕ) (have b : ℕ) → length line ≡ 81 → have ≡ 81 → short (take have line ++ (b ∷ [])) ≡ take have line
unfolding short
kept_full line have b n h = rw h (take-append-le 81 (take 81 line) (b ∷ []) (omega (arith, length-take 81 line)) ∙ take-take 81 81 line (omega arith))
