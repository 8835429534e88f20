use Rattle.numbers.specs.Library.{sym, ◌∙◌, arith}
use Rattle.numbers.specs.Prelude.{most_side, natural, one_to_lem, side_fits, side_bad}
use Rattle.numbers.proofs.Signed.{as_given}
use Rattle.numbers.proofs.sides.side_of.Goals as goal

pub overflow_cast-result : goal.overflow_cast-result
overflow_cast-result c = record { fits = omega (arith, ((one_to_lem most_side c.natural_of-n.result).sound (sym c.one_to.ensures ∙ c.if-one_to.true)).1) }

pub returns-then-one_to : goal.returns-then-one_to
returns-then-one_to c = sym (side_fits _ _ (as_given natural c.ranges.raw c.natural_of-n.ensures)
    (sym c.one_to.ensures ∙ c.if-one_to.true))

pub returns : goal.returns
returns c = sym (side_bad _ _ (as_given natural c.ranges.raw c.natural_of-n.ensures)
    (sym c.one_to.ensures ∙ c.if-one_to.false))
