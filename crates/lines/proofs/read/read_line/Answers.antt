use Rattle.numbers.specs.Library.{sym, ◌∙◌}
use Rattle.lines.proofs.Words.{short_line, long_line}
use Rattle.lines.proofs.read.read_line.Goals as goal

pub returns-then-line-gt-LONGEST_LINE : goal.returns-then-line-gt-LONGEST_LINE
returns-then-line-gt-LONGEST_LINE c = sym (long_line c.args.line.now c.if-line-gt-LONGEST_LINE.true)

pub returns : goal.returns
returns c = c.read_words.ensures ∙ sym (short_line c.args.line.now c.if-line-gt-LONGEST_LINE.false)
