-- `save_unaudited`: 10, or the image.
use Rattle.save.proofs.Saved.{has_rows_lem, saves_short, saves_all}
use Rattle.save.proofs.save_unaudited.Goals as goal

pub returns-then-out-z : goal.returns-then-out-z
returns-then-out-z c = saves_short _ c.sizes_of-z.ensures _ _ c.requires _ c.if-out-z.true

pub write_image-requires : goal.write_image-requires
write_image-requires c = (c.sizes_of-z.ensures, has_rows_lem _ c.sizes_of-z.ensures _ _ c.requires c.args.out.now, c.if-out-z.false)

pub returns : goal.returns
returns c = saves_all _ c.sizes_of-z.ensures _ _ c.requires _ c.if-out-z.false _ c.write_image.ensures
