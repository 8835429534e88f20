-- The lines of some items put into the output one after another, and counted. Assumes nothing.
use Rattle.std.specs.Prelude.{◌+◌, ◌≡◌, ◌∷◌, ◌++◌}
use Rattle.numbers.specs.Library.{ℕ, refl, sym, ap, ◌∙◌, List, [], append_assoc, length, length-append, arith}
use Rattle.rows.specs.declared.live.Live.{Live}
use Rattle.texts.specs.Answer.{text_of}
use Rattle.texts.specs.Lines.{PutsLines, lines_none, lines_then}
use Rattle.texts.specs.declared.answer.Answer.TheVariants as answer
use Rattle.script_rules.specs.Listing.{item_lines}
use Rattle.script_tells.specs.declared.list.Lines.{Lines}

-- the lines of these items are put, and they are counted
pub record Listed (ls : List Live) (out : List ℕ) (at : ℕ) (r : Lines) (out' : List ℕ) : Type 0 where
  pub puts : PutsLines out at (item_lines ls) out' r.at
  pub counted : r.count ≡ length ls

-- ---- laws

pub lines_join : (a b : List Live) → item_lines (a ++ b) ≡ item_lines a ++ item_lines b
unfolding item_lines
lines_join [] b = refl
lines_join (l ∷ a) b = ap (λ (t : List ℕ). text_of (answer.Listed l) ++ t) (lines_join a b) ∙ sym (append_assoc (text_of (answer.Listed l)) (item_lines a) (item_lines b))

pub listed_none : (out : List ℕ) (at : ℕ) → Listed [] out at (record { count = 0; at = at }) out
unfolding item_lines
listed_none out at = record { puts = lines_none out at; counted = refl }

-- items, and then more of them
pub listed_then : {a b : List Live} {out mid out' : List ℕ} {at : ℕ} {p q : Lines} → Listed a out at p mid → Listed b mid p.at q out'
    → Listed (a ++ b) out at (record { count = p.count + q.count; at = q.at }) out'
listed_then {a} {b} {out} {mid} {out'} {at} {p} {q} f g = record {
  puts = rw lines_join (lines_then f.puts g.puts);
  counted = omega (arith, f.counted, g.counted, length-append a b);
}
