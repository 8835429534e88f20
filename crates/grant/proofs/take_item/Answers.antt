use Rattle.numbers.specs.Library.{sym, ◌∙◌}
use Rattle.grant.specs.Grant.{takes_part, takes_whole}
use Rattle.grant.proofs.take_item.Goals as goal

pub returns-then-p-clause-is : goal.returns-then-p-clause-is
returns-then-p-clause-is c = c.take_part.ensures.is ∙ sym (takes_part _ c.args.p c.if-p.true)

pub returns-else-p-clause-is : goal.returns-else-p-clause-is
returns-else-p-clause-is c = c.take_whole.ensures.is ∙ sym (takes_whole _ c.args.p c.if-p.false)
