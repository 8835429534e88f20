-- An answer's line has at most 39 bytes, its newline counted: numbers of 16 bits have five digits at most, those of 32 bits ten. Assumes nothing.
use Rattle.std.specs.Prelude.{◌+◌, ◌^◌, ◌≤◌, ◌<◌, ◌≡◌, ◌∷◌, ◌++◌}
use Rattle.numbers.specs.Library.{ℕ, arith, refl, List, [], length, length-append}
use Rattle.rows.specs.declared.live.Live.{Live}
use Rattle.texts.specs.Text.{decimal, spaced, line}
use Rattle.texts.specs.Answer.{live_line, refusal_line, text_of}
use Rattle.texts.specs.Put.{Puts}
use Rattle.texts.specs.Lines.{PutsLines, one_line, one_refusal}
use Rattle.texts.specs.declared.answer.Answer.{Answer}
use Rattle.texts.specs.declared.answer.Answer.TheVariants.{Made, Item, Space, Listed, End}
use Rattle.texts.proofs.Digits.{five, ten}

line_length : (word ns : List ℕ) → length (line word ns) ≡ length word + length (spaced ns) + 1
unfolding line
line_length word ns = omega (arith, length-append word (spaced ns ++ (10 ∷ [])), length-append (spaced ns) (10 ∷ []))

spaced_length : (n : ℕ) (ns : List ℕ) → length (spaced (n ∷ ns)) ≡ 1 + length (decimal n) + length (spaced ns)
unfolding spaced
spaced_length n ns = omega (arith, length-append (decimal n) (spaced ns))

spaced_none : length (spaced []) ≡ 0
unfolding spaced
spaced_none = refl

one_number : (word : List ℕ) (n : ℕ) → n < 2 ^ 32 → length (line word (n ∷ [])) ≤ length word + 12
one_number word n h = omega (arith, line_length word (n ∷ []), spaced_length n [], spaced_none, ten n h)

two_numbers : (word : List ℕ) (m n : ℕ) → m < 2 ^ 32 → n < 2 ^ 32 → length (line word (m ∷ n ∷ [])) ≤ length word + 23
two_numbers word m n h k = omega (arith, line_length word (m ∷ n ∷ []), spaced_length m (n ∷ []), spaced_length n [], spaced_none, ten m h, ten n k)

-- the numbers of a live item have 16 bits
pub record Narrow (l : Live) : Type 0 where
  pub row : l.row < 2 ^ 16
  pub generation : l.generation < 2 ^ 16
  pub x0 : l.x0 < 2 ^ 16
  pub y0 : l.y0 < 2 ^ 16
  pub x1 : l.x1 < 2 ^ 16
  pub y1 : l.y1 < 2 ^ 16

pub live_short : (l : Live) → Narrow l → length (live_line l) ≤ 36
unfolding live_line
live_short l n =
    omega (
      arith,
      line_length (decimal l.row) (l.generation ∷ l.x0 ∷ l.y0 ∷ l.x1 ∷ l.y1 ∷ []),
      spaced_length l.generation (l.x0 ∷ l.y0 ∷ l.x1 ∷ l.y1 ∷ []),
      spaced_length l.x0 (l.y0 ∷ l.x1 ∷ l.y1 ∷ []),
      spaced_length l.y0 (l.x1 ∷ l.y1 ∷ []),
      spaced_length l.x1 (l.y1 ∷ []),
      spaced_length l.y1 [],
      spaced_none,
      five l.row n.row,
      five l.generation n.generation,
      five l.x0 n.x0,
      five l.y0 n.y0,
      five l.x1 n.x1,
      five l.y1 n.y1,
    )

-- ---- each answer, put

lines : (a : Answer) → length (text_of a) ≤ 39 → {out : List ℕ} {at : ℕ} {out' : List ℕ} {end : ℕ} → Puts out at (text_of a) out' end → PutsLines out at (text_of a) out' end
lines a h p = record { puts = p; short = omega (arith, one_line a, h) }

pub made_lines : (columns : ℕ) → columns < 2 ^ 32 → {out : List ℕ} {at : ℕ} {out' : List ℕ} {end : ℕ} → Puts out at (text_of (Made columns)) out' end → PutsLines out at (text_of (Made columns)) out' end
made_lines columns h = lines (Made columns) (omega (arith, one_number (111 ∷ 107 ∷ []) columns h))

pub space_lines : (occupied free : ℕ) → occupied < 2 ^ 32 → free < 2 ^ 32 → {out : List ℕ} {at : ℕ} {out' : List ℕ} {end : ℕ} → Puts out at (text_of (Space occupied free)) out' end → PutsLines out at (text_of (Space occupied free)) out' end
space_lines occupied free h k = lines (Space occupied free) (omega (arith, two_numbers (115 ∷ 112 ∷ 97 ∷ 99 ∷ 101 ∷ []) occupied free h k))

pub end_lines : (count : ℕ) → count < 2 ^ 32 → {out : List ℕ} {at : ℕ} {out' : List ℕ} {end : ℕ} → Puts out at (text_of (End count)) out' end → PutsLines out at (text_of (End count)) out' end
end_lines count h = lines (End count) (omega (arith, one_number (101 ∷ 110 ∷ 100 ∷ []) count h))

pub no_lines : (number : ℕ) → number < 2 ^ 32 → {out : List ℕ} {at : ℕ} {out' : List ℕ} {end : ℕ} → Puts out at (refusal_line number) out' end → PutsLines out at (refusal_line number) out' end
no_lines number h p = record { puts = p; short = omega (arith, one_refusal number, one_number (110 ∷ 111 ∷ []) number h) }

pub live_lines : (l : Live) → length (live_line l) ≤ 36 → {out : List ℕ} {at : ℕ} {out' : List ℕ} {end : ℕ} → Puts out at (text_of (Listed l)) out' end → PutsLines out at (text_of (Listed l)) out' end
live_lines l h = lines (Listed l) (omega arith)

pub item_lines_lem : (l : Live) → length (live_line l) ≤ 36 → {out : List ℕ} {at : ℕ} {out' : List ℕ} {end : ℕ} → Puts out at (text_of (Item l)) out' end → PutsLines out at (text_of (Item l)) out' end
item_lines_lem l h = lines (Item l) (omega (arith, length-append (111 ∷ 107 ∷ 32 ∷ []) (live_line l)))
