use Rattle.numbers.specs.Library.{refl}
use Rattle.search.proofs.FreeList.{ended, row_there, wide, past, shorter}
use Rattle.search.proofs.Tests.{is_none, is_some}
use Rattle.search.proofs.first_wide.Goals as goal

pub returns-then-is_none : goal.returns-then-is_none
returns-then-is_none c = ended (record { ends = c.requires; same = refl }) (is_none c.is_none.ensures c.if-is_none.true)

pub loop-v-init : goal.loop-v-init
loop-v-init c = (is_some c.is_none.ensures c.if-is_none.false, record { ends = c.requires; same = refl })

pub there-v-requires : goal.there-v-requires
there-v-requires c = row_there c.loop-v.invariant.1 c.loop-v.invariant.0

pub returns-then-width-v : goal.returns-then-width-v
returns-then-width-v c =
    let inv = c.loop-v.invariant in
    wide inv.1 inv.0 _ c.there-v.ensures c.if-width-v.true

pub returns-then-is_none-2 : goal.returns-then-is_none-2
returns-then-is_none-2 c =
    let inv = c.loop-v.invariant in
    ended (past inv.1 inv.0 _ c.there-v.ensures c.if-width-v.false) (is_none c.is_none-in-loop-v.ensures c.if-is_none-2.true)

pub loop-v-smaller : goal.loop-v-smaller
loop-v-smaller c =
    let inv = c.loop-v.invariant in
    shorter inv.1 inv.0 _ c.there-v.ensures

pub loop-v-preserved : goal.loop-v-preserved
loop-v-preserved c =
    let inv = c.loop-v.invariant in
    (is_some c.is_none-in-loop-v.ensures c.if-is_none-2.false, past inv.1 inv.0 _ c.there-v.ensures c.if-width-v.false)
