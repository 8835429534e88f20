-- `put_answer`: each arm puts the text of its case.
use Rattle.std.specs.Prelude.{◌≡◌}
use Rattle.numbers.specs.Library.{ℕ, List, arith}
use Rattle.texts.specs.Lines.{newlines, PutsLines}
use Rattle.texts.specs.Text.{spaced, line}
use Rattle.texts.specs.Answer.{text_of}
use Rattle.texts.specs.declared.answer.Answer.{Answer}
use Rattle.texts.proofs.Short.{live_lines}
use Rattle.texts.proofs.answer.put_answer.Goals as goal

-- the text of the variant that the answer is
as-told : {out : List ℕ} {at : ℕ} {a b : Answer} {out' : List ℕ} {end : ℕ} → a ≡ b → PutsLines out at (text_of b) out' end → PutsLines out at (text_of a) out' end
as-told e p = rw e p

pub returns-in-Done : goal.returns-in-Done
unfolding spaced line newlines
returns-in-Done c = as-told c.in-Done.is (record { puts = c.put_text.ensures; short = omega arith })

pub returns-in-Listed : goal.returns-in-Listed
returns-in-Listed c = as-told c.in-Listed.is (live_lines _ c.put_live.ensures.live_len_bound c.put_live.ensures.puts)
