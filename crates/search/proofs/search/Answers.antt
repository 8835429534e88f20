use Rattle.numbers.specs.Library.{arith}
use Rattle.search.proofs.ShelfTurns.{begins, chain_there, shelf_there, list_there, past_none, past_good, past_bad, exact, ended, reached, closer}
use Rattle.search.proofs.Tests.{some, none, is_some, is_none}
use Rattle.numbers.specs.Library.{ap, not}
use Rattle.search.proofs.search.Goals as goal

pub loop-asked-init : goal.loop-asked-init
loop-asked-init c = λ h w. begins w

pub next_to_try-at-requires : goal.next_to_try-at-requires
next_to_try-at-requires c = chain_there (c.loop-asked.invariant c.args.h c.requires).ahead

pub returns-then-is_none : goal.returns-then-is_none
returns-then-is_none c =
    ended (reached (c.loop-asked.invariant c.args.h c.requires) _ c.good_fit_to-good_to.ensures c.is_some.ensures c.next_to_try-at.ensures.passed)
    (is_none c.is_none.ensures c.if-is_none.true)

pub there-s-requires : goal.there-s-requires
there-s-requires c =
    let turn = reached (c.loop-asked.invariant c.args.h c.requires) _ c.good_fit_to-good_to.ensures c.is_some.ensures c.next_to_try-at.ensures.passed in
    shelf_there turn.ahead (is_some c.is_none.ensures c.if-is_none.false)

pub first_wide-found-requires : goal.first_wide-found-requires
first_wide-found-requires c =
    let turn = reached (c.loop-asked.invariant c.args.h c.requires) _ c.good_fit_to-good_to.ensures c.is_some.ensures c.next_to_try-at.ensures.passed in
    list_there turn.ahead (is_some c.is_none.ensures c.if-is_none.false) _ c.there-s.ensures

pub returns-then-s-asked : goal.returns-then-s-asked
returns-then-s-asked c =
    let at_row = is_some c.is_none.ensures c.if-is_none.false in
    exact (reached (c.loop-asked.invariant c.args.h c.requires) _ c.good_fit_to-good_to.ensures c.is_some.ensures c.next_to_try-at.ensures.passed)
    at_row _ c.there-s.ensures _ c.good_fit_to-good_to.ensures (omega (arith, c.there-s.type_inv)) c.is_some.ensures (c.next_to_try-at.ensures.tried at_row)
    _ c.first_wide-found.ensures (some c.is_none-in-loop-asked.ensures (ap not c.if-not-is_none.true)) c.if-s-asked.true

pub loop-asked-smaller-then-not-is_bad_fit : goal.loop-asked-smaller-then-not-is_bad_fit
loop-asked-smaller-then-not-is_bad_fit c =
    closer (c.loop-asked.invariant c.args.h c.requires) _ c.good_fit_to-good_to.ensures c.is_some.ensures c.next_to_try-at.ensures.passed
    (is_some c.is_none.ensures c.if-is_none.false) _ c.there-s.ensures

pub loop-asked-preserved-then-not-is_bad_fit : goal.loop-asked-preserved-then-not-is_bad_fit
loop-asked-preserved-then-not-is_bad_fit c =
    let at_row = is_some c.is_none.ensures c.if-is_none.false in
    λ h w.
    past_good (reached (c.loop-asked.invariant h w) _ c.good_fit_to-good_to.ensures c.is_some.ensures c.next_to_try-at.ensures.passed)
    at_row _ c.there-s.ensures _ c.good_fit_to-good_to.ensures (omega (arith, c.there-s.type_inv)) c.is_some.ensures (c.next_to_try-at.ensures.tried at_row)
    _ c.first_wide-found.ensures (some c.is_none-in-loop-asked.ensures (ap not c.if-not-is_none.true))
    c.is_bad_fit.ensures c.if-s-asked.false (ap not c.if-not-is_bad_fit.true)

pub loop-asked-smaller-else-not-is_bad_fit : goal.loop-asked-smaller-else-not-is_bad_fit
loop-asked-smaller-else-not-is_bad_fit c =
    closer (c.loop-asked.invariant c.args.h c.requires) _ c.good_fit_to-good_to.ensures c.is_some.ensures c.next_to_try-at.ensures.passed
    (is_some c.is_none.ensures c.if-is_none.false) _ c.there-s.ensures

pub loop-asked-preserved-else-not-is_bad_fit : goal.loop-asked-preserved-else-not-is_bad_fit
loop-asked-preserved-else-not-is_bad_fit c =
    let at_row = is_some c.is_none.ensures c.if-is_none.false in
    λ h w.
    past_bad (reached (c.loop-asked.invariant h w) _ c.good_fit_to-good_to.ensures c.is_some.ensures c.next_to_try-at.ensures.passed)
    at_row _ c.there-s.ensures _ c.good_fit_to-good_to.ensures (omega (arith, c.there-s.type_inv)) c.is_some.ensures (c.next_to_try-at.ensures.tried at_row)
    _ c.first_wide-found.ensures (some c.is_none-in-loop-asked.ensures (ap not c.if-not-is_none.true))
    c.is_bad_fit.ensures (ap not c.if-not-is_bad_fit.false)

pub loop-asked-smaller : goal.loop-asked-smaller
loop-asked-smaller c =
    closer (c.loop-asked.invariant c.args.h c.requires) _ c.good_fit_to-good_to.ensures c.is_some.ensures c.next_to_try-at.ensures.passed
    (is_some c.is_none.ensures c.if-is_none.false) _ c.there-s.ensures

pub loop-asked-preserved : goal.loop-asked-preserved
loop-asked-preserved c =
    let at_row = is_some c.is_none.ensures c.if-is_none.false in
    λ h w.
    past_none (reached (c.loop-asked.invariant h w) _ c.good_fit_to-good_to.ensures c.is_some.ensures c.next_to_try-at.ensures.passed)
    at_row _ c.there-s.ensures _ c.good_fit_to-good_to.ensures (omega (arith, c.there-s.type_inv)) c.is_some.ensures (c.next_to_try-at.ensures.tried at_row)
    _ c.first_wide-found.ensures (none c.is_none-in-loop-asked.ensures (ap not c.if-not-is_none.false))
