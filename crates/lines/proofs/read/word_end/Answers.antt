use Rattle.std.specs.Prelude.{◌-◌, ◌≡◌}
use Rattle.numbers.specs.Library.{ℕ, List, ap, arith, length, drop, take, take_all, length-drop, length-take-le}
use Rattle.lines.specs.Line.{first_word}
use Rattle.lines.proofs.Words.{space_found, no_space}
use Rattle.lines.proofs.read.word_end.Goals as goal

-- the rest of the line, as it is lent
rest : (l : List ℕ) (from : ℕ) → length (first_word (take (length l - from) (drop from l))) ≡ length (first_word (drop from l))
rest l from = ap (λ (r : List ℕ). length (first_word r)) (take_all _ _ (omega (arith, length-drop from l)))

pub returns-in-Some-clause-value : goal.returns-in-Some-clause-value
returns-in-Some-clause-value c =
    let l = c.args.line.now in
    omega (arith, space_found (take (length l - c.args.from) (drop c.args.from l)) c.in-Some.before c.in-Some.ensures, rest l c.args.from)

pub returns-in-None-clause-value : goal.returns-in-None-clause-value
returns-in-None-clause-value c =
    let l = c.args.line.now in
    let r = take (length l - c.args.from) (drop c.args.from l) in
    let n : length r ≡ length l - c.args.from = length-take-le _ _ (omega (arith, length-drop c.args.from l)) in
    omega (arith, no_space r c.in-None.ensures, rest l c.args.from, n)
