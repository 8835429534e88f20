-- Texts of whole lines, put into a buffer: no line has more than 39 bytes, its newline counted, so the number of lines bounds a text. Assumes nothing.
use Rattle.std.specs.Prelude.{◌+◌, ◌*◌, ◌/◌, ◌%◌, ◌≤◌, ◌≡◌, ◌∷◌, ◌++◌}
use Rattle.numbers.specs.Library.{ℕ, zero, suc, arith, Bool, true, false, refl, ap, ◌∙◌, List, [], eqb, ltb, length}
use Rattle.numbers.specs.Library.{length-append, ne_eqb}
use Rattle.numbers.specs.Prelude.{pick, refusal_number}
use Rattle.rows.specs.declared.live.Live.{Live}
use Rattle.texts.specs.Text.{spell, decimal, spaced, line}
use Rattle.texts.specs.Answer.{live_line, refusal_line, text_of}
use Rattle.texts.specs.Put.{Puts, put_nothing, put_then}
use Rattle.texts.specs.declared.answer.Answer.{Answer}
use Rattle.texts.specs.declared.answer.Answer.TheVariants.{Done, Made, Item, Space, Listed, End, No}

unfoldable pub newlines : List ℕ → ℕ
newlines [] = 0
newlines (c ∷ cs) = pick (eqb c 10) 1 0 + newlines cs

pub record PutsLines (out : List ℕ) (at : ℕ) (text out' : List ℕ) (end : ℕ) : Type 0 where
  pub puts : Puts out at text out' end
  pub short : length text ≤ 39 * newlines text

-- ---- laws

pub newlines_append : (a b : List ℕ) → newlines (a ++ b) ≡ newlines a + newlines b
unfolding newlines
newlines_append [] b = omega arith
newlines_append (c ∷ a) b = omega (arith, newlines_append a b)

pub lines_none : (out : List ℕ) (at : ℕ) → PutsLines out at [] out at
unfolding newlines
lines_none out at = record { puts = put_nothing out at; short = omega arith }

pub lines_then : {out : List ℕ} {at : ℕ} {a b mid : List ℕ} {p : ℕ} {out' : List ℕ} {end : ℕ}
    → PutsLines out at a mid p → PutsLines mid p b out' end → PutsLines out at (a ++ b) out' end
lines_then {a = a} {b = b} f g =
    record { puts = put_then f.puts g.puts; short = omega (arith, f.short, g.short, length-append a b, newlines_append a b) }

-- ---- an answer is one line

newlines_digit : (d : ℕ) → newlines ((48 + d) ∷ []) ≡ 0
unfolding newlines
newlines_digit d = let e : eqb (48 + d) 10 ≡ false = ne_eqb (48 + d) 10 (λ h. omega arith) in rw e

newlines_spell : (k n : ℕ) → newlines (spell k n) ≡ 0
unfolding spell newlines
newlines_spell zero n = refl
newlines_spell (suc k) n = go (ltb n 10) (newlines_spell k (n / 10)) where
  go : (b : Bool) → newlines (spell k (n / 10)) ≡ 0 → newlines (pick b ((48 + n) ∷ []) (spell k (n / 10) ++ ((48 + n % 10) ∷ []))) ≡ 0
  go true h = newlines_digit n
  go false h = omega (arith, newlines_append (spell k (n / 10)) ((48 + n % 10) ∷ []), newlines_digit (n % 10))

newlines_decimal : (n : ℕ) → newlines (decimal n) ≡ 0
unfolding decimal
newlines_decimal n = newlines_spell (suc n) n

newlines_spaced : (ns : List ℕ) → newlines (spaced ns) ≡ 0
unfolding spaced newlines
newlines_spaced [] = refl
newlines_spaced (n ∷ ns) = omega (arith, newlines_append (decimal n) (spaced ns), newlines_decimal n, newlines_spaced ns)

newlines_line : (word ns : List ℕ) → newlines (line word ns) ≡ newlines word + 1
unfolding line newlines
newlines_line word ns =
    omega (arith, newlines_append word (spaced ns ++ (10 ∷ [])), newlines_append (spaced ns) (10 ∷ []), newlines_spaced ns)

newlines_live : (l : Live) → newlines (live_line l) ≡ 1
unfolding live_line
newlines_live l = newlines_line (decimal l.row) _ ∙ ap (λ (n : ℕ). n + 1) (newlines_decimal l.row)

pub one_refusal : (number : ℕ) → newlines (refusal_line number) ≡ 1
unfolding newlines
one_refusal number = newlines_line (110 ∷ 111 ∷ []) (number ∷ [])

pub one_line : (a : Answer) → newlines (text_of a) ≡ 1
unfolding newlines
one_line Done = newlines_line (111 ∷ 107 ∷ []) []
one_line (Made columns) = newlines_line (111 ∷ 107 ∷ []) (columns ∷ [])
one_line (Item l) = omega (arith, newlines_append (111 ∷ 107 ∷ 32 ∷ []) (live_line l), newlines_live l)
one_line (Space occupied free) = newlines_line (115 ∷ 112 ∷ 97 ∷ 99 ∷ 101 ∷ []) (occupied ∷ free ∷ [])
one_line (Listed l) = newlines_live l
one_line (End count) = newlines_line (101 ∷ 110 ∷ 100 ∷ []) (count ∷ [])
one_line (No e) = one_refusal (refusal_number e)
