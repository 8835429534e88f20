-- `read_number`: with a minus in front the number is that of the rest under a minus, else that of the whole word.
use Rattle.numbers.specs.Library.{ap, sym, ◌∙◌, neg_ℤ}
use Rattle.numerals.specs.Numeral.{signed}
use Rattle.numerals.proofs.Numerals.{minus_long, by_minus, by_plus, after_drop}
use Rattle.numerals.proofs.read_number.Goals as goal

pub slice_bounds-read_negative-count : goal.slice_bounds-read_negative-count
slice_bounds-read_negative-count c = minus_long c.args.w.now (sym c.if-minus_first.ensures)

pub slice_bounds-read_negative-start : goal.slice_bounds-read_negative-start
slice_bounds-read_negative-start c = minus_long c.args.w.now (sym c.if-minus_first.ensures)

pub returns-then-minus_first : goal.returns-then-minus_first
returns-then-minus_first c =
    let w = c.args.w.now in
    c.read_negative.ensures ∙ ap (signed neg_ℤ) (after_drop w) ∙ sym (by_minus w (sym c.if-minus_first.ensures))

pub returns-else-minus_first : goal.returns-else-minus_first
returns-else-minus_first c = c.read_natural.ensures ∙ sym (by_plus c.args.w.now (sym c.if-minus_first.ensures))
