-- `block_right`: the heading, nothing but zeros after the data, and the check.
use Rattle.numbers.specs.Prelude.{denied, allowed}
use Rattle.blocks.proofs.Judged.{unused_decides, wrong_heading, wrong_unused, last_of_block}
use Rattle.numbers.specs.Library.{ap, not}
use Rattle.blocks.proofs.block.block_right.Goals as goal

pub returns-then-not-is_of : goal.returns-then-not-is_of
returns-then-not-is_of c =
    wrong_heading _ c.requires.0 _ _ _ _ c.requires.1 (denied c.is_of.ensures (ap not c.if-not-is_of.true))

pub returns-then-not-all_zero : goal.returns-then-not-all_zero
returns-then-not-all_zero c =
    wrong_unused _ c.requires.0 _ _ _ _ c.requires.1 (denied (unused_decides _ c.requires.0 _ c.requires.1 c.all_zero.ensures) (ap not c.if-not-all_zero.true))

pub check_right-requires : goal.check_right-requires
check_right-requires c =
    (c.requires.0, c.requires.1, allowed (unused_decides _ c.requires.0 _ c.requires.1 c.all_zero.ensures) (ap not c.if-not-all_zero.false))

pub returns : goal.returns
returns c =
    last_of_block _ c.requires.0 _ _ _ _ c.requires.1 (allowed c.is_of.ensures (ap not c.if-not-is_of.false))
    (allowed (unused_decides _ c.requires.0 _ c.requires.1 c.all_zero.ensures) (ap not c.if-not-all_zero.false)) c.check_right.ensures
