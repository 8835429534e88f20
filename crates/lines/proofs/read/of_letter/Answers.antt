-- `of_letter`: by the count of the numbers, a command with none, two or six of them; any other count is no command.
use Rattle.numbers.specs.Library.{arith, sym, ◌∙◌}
use Rattle.lines.specs.Line.{at, create_args}
use Rattle.lines.proofs.Words.{by_six, by_two, by_none, by_other, back}
use Rattle.lines.proofs.read.of_letter.Goals as goal

pub returns-in-empty : goal.returns-in-empty
returns-in-empty c = c.of_none.ensures ∙ sym (by_none c.args.letter c.args.numbers.now (omega arith))

pub returns-in-len2 : goal.returns-in-len2
returns-in-len2 c =
    let v = c.args.numbers.now in
    c.of_two.ensures ∙ simp (back (at v 0) (omega arith), back (at v 1) (omega arith)) (sym (by_two c.args.letter v (omega arith)))

pub returns-in-len6 : goal.returns-in-len6
unfolding create_args
returns-in-len6 c =
    let v = c.args.numbers.now in
    c.of_six.ensures
    ∙ simp (
      back (at v 0) (omega arith),
      back (at v 1) (omega arith),
      back (at v 2) (omega arith),
      back (at v 3) (omega arith),
      back (at v 4) (omega arith),
      back (at v 5) (omega arith),
    )
    (sym (by_six c.args.letter v (omega arith)))

pub returns-in_default : goal.returns-in_default
returns-in_default c = sym (by_other c.args.letter c.args.numbers.now (λ e. omega arith) (λ e. omega arith) (λ e. omega arith))

pub returns-in_default-2 : goal.returns-in_default-2
returns-in_default-2 c = sym (by_other c.args.letter c.args.numbers.now (λ e. omega arith) (λ e. omega arith) (λ e. omega arith))

pub returns-in_default-3 : goal.returns-in_default-3
returns-in_default-3 c = sym (by_other c.args.letter c.args.numbers.now (λ e. omega arith) (λ e. omega arith) (λ e. omega arith))
