-- `by_rules`: the rules one after another, and what follows for each verdict.
use Rattle.numbers.specs.Library.{ap, not}
use Rattle.numbers.specs.Prelude.{denied}
use Rattle.audit.proofs.Exactness.{fails_5, all_hold}
use Rattle.audit.proofs.by_rules.Goals as goal

pub returns-then-not-lists_agree : goal.returns-then-not-lists_agree
returns-then-not-lists_agree c =
    let rule2 = c.shelves_right.ensures.sound c.if-not-shelves_right.false in
    let (rule3, totals) = c.in-Some.ensures in
    fails_5 _ _ _ c.requires rule2 rule3 _ totals (denied c.lists_agree.ensures (ap not c.if-not-lists_agree.true))

pub returns : goal.returns
returns c =
    let rule2 = c.shelves_right.ensures.sound c.if-not-shelves_right.false in
    let (rule3, totals) = c.in-Some.ensures in
    all_hold _ _ _ c.requires rule2 rule3 _ totals (c.lists_agree.ensures.sound c.if-not-lists_agree.false)
