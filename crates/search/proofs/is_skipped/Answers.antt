-- `is_skipped`: each test is one part of what is asked.
use Rattle.numbers.specs.Library.{le-leb, lt-leb, lt-ltb, le-ltb}
use Rattle.search.specs.Search.{skipped_by}
use Rattle.search.proofs.is_skipped.Goals as goal

pub returns-then-s-depth : goal.returns-then-s-depth
unfolding skipped_by
returns-then-s-depth c = rw (lt-ltb _ _ c.if-s-depth.true)

pub returns-then-below-s : goal.returns-then-below-s
unfolding skipped_by
returns-then-below-s c = rw (le-ltb _ _ c.if-s-depth.false, le-leb _ _ c.if-below-s.true)

pub returns-then-is_bad_fit : goal.returns-then-is_bad_fit
unfolding skipped_by
returns-then-is_bad_fit c =
    rw (le-ltb _ _ c.if-s-depth.false, lt-leb _ _ c.if-below-s.false, ← c.is_bad_fit.ensures, c.if-is_bad_fit.true)

pub returns-else-is_bad_fit : goal.returns-else-is_bad_fit
unfolding skipped_by
returns-else-is_bad_fit c =
    rw (le-ltb _ _ c.if-s-depth.false, lt-leb _ _ c.if-below-s.false, ← c.is_bad_fit.ensures, c.if-is_bad_fit.false)
