use Rattle.numbers.specs.Library.{lt-ltb, le-ltb, eq-eqb, ne_eqb}
use Rattle.live_rows.specs.Live.{is_live_of}
use Rattle.live_rows.proofs.is_live.Goals as goal

pub returns-then-h-row : goal.returns-then-h-row
unfolding is_live_of
returns-then-h-row c = rw (le-ltb _ _ c.if-h-row.true)

pub returns-then-v-eq1 : goal.returns-then-v-eq1
unfolding is_live_of
returns-then-v-eq1 c = rw (lt-ltb _ _ c.if-h-row.false, ← c.there-v.ensures, eq-eqb _ _ c.if-v-eq1.true)

pub returns-else-v-eq1 : goal.returns-else-v-eq1
unfolding is_live_of
returns-else-v-eq1 c = rw (lt-ltb _ _ c.if-h-row.false, ← c.there-v.ensures, ne_eqb _ _ c.if-v-eq1.false)
