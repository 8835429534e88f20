use Rattle.std.specs.Prelude.{◌/◌, ◌≡◌}
use Rattle.numbers.specs.Library.{arith}
use Rattle.image_form.proofs.Written.{written_none}
use Rattle.row_blocks.proofs.Places.{laid_from_zero, filled, rows_full, rows_last, copyable, one_copied, last_copied}
use Rattle.row_blocks.proofs.RowBlocks.copy.Goals as goal

pub loop-b-init : goal.loop-b-init
loop-b-init c = written_none _

pub copy_block-requires : goal.copy_block-requires
copy_block-requires c =
    let full = filled (laid_from_zero c.args.self.laid) in
    let rows = rows_full (laid_from_zero c.args.self.laid) _ c.loop-b.b full.whole (omega arith) in
    copyable (laid_from_zero c.args.self.laid) _ c.requires.0 _ _ _ (omega arith) rows c.loop-b.invariant c.requires.1

pub loop-b-preserved : goal.loop-b-preserved
loop-b-preserved c =
    let full = filled (laid_from_zero c.args.self.laid) in
    let rows = rows_full (laid_from_zero c.args.self.laid) _ c.loop-b.b full.whole (omega arith) in
    one_copied (laid_from_zero c.args.self.laid) _ c.requires.0 _ _ _ (omega arith) rows.are c.loop-b.invariant c.copy_block.ensures

pub copy_block-requires-2 : goal.copy_block-requires-2
copy_block-requires-2 c =
    let full = filled (laid_from_zero c.args.self.laid) in
    let all : c.loop-b.b ≡ c.args.self.used / c.args.self.layout.most = omega arith in
    copyable (laid_from_zero c.args.self.laid) _ c.requires.0 _ _ _ (omega arith) (rows_last (laid_from_zero c.args.self.laid) full) (rw all at c.loop-b.invariant) c.requires.1

pub returns : goal.returns
returns c =
    (last_copied (laid_from_zero c.args.self.laid) _ c.requires.0 _ (filled (laid_from_zero c.args.self.laid)) c.if-full-self.false c.loop-b.b (omega arith) c.loop-b.invariant c.copy_block-2.ensures).is
