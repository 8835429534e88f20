use Rattle.numbers.specs.Library.{sym, ◌∙◌}
use Rattle.grant.specs.Grant.{fits_split, fits_whole}
use Rattle.grant.proofs.fit_shelf.Goals as goal

pub returns-then-p-clause-is : goal.returns-then-p-clause-is
returns-then-p-clause-is c = c.split_shelf.ensures.is ∙ sym (fits_split _ c.args.p c.if-p.true)

pub returns-else-p-clause-is : goal.returns-else-p-clause-is
returns-else-p-clause-is c = sym (fits_whole _ c.args.p c.if-p.false)
