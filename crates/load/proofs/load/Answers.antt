-- `load`: 9, then 7, then the rows copied; 3 or the atlas. Assumes nothing.
use Rattle.numbers.specs.Library.{ap, not, arith}
use Rattle.numbers.specs.Prelude.{denied, allowed}
use Rattle.numbers.specs.declared.refusal.Refusal.TheVariants as refusal
use Rattle.image_read.proofs.Judging.{first_there, ends_there}
use Rattle.load.proofs.Loaded.{load_refused, loads_9, loads_7, loads}
use Rattle.load.proofs.load.Goals as goal

pub returns-then-not-image_right : goal.returns-then-not-image_right
returns-then-not-image_right c =
    loads_9 c.args.image.now (λ i. omega (arith, c.type_inv.image i)) _ _ _ c.image_right.ensures (ap not c.if-not-image_right.true) (load_refused refusal.Image c.no_atlas.ensures)

pub slice_bounds-header_in-end : goal.slice_bounds-header_in-end
slice_bounds-header_in-end c = first_there _ (allowed c.image_right.ensures (ap not c.if-not-image_right.false))

pub returns-then-not-has_rows : goal.returns-then-not-has_rows
returns-then-not-has_rows c =
    loads_7 c.args.image.now (λ i. omega (arith, c.type_inv.image i)) _ _ _ (allowed c.image_right.ensures (ap not c.if-not-image_right.false))
    c.header_in-h.ensures (denied c.has_rows.ensures (ap not c.if-not-has_rows.true)) (load_refused refusal.TooFewRows c.no_atlas-then-not-has_rows.ensures)

pub copy_rows-requires : goal.copy_rows-requires
copy_rows-requires c = (
  c.sizes_of-z.ensures,
  ends_there _ c.header_in-h.ensures c.sizes_of-z.ensures (allowed c.image_right.ensures (ap not c.if-not-image_right.false)),
  allowed c.has_rows.ensures (ap not c.if-not-has_rows.false),
)

pub returns : goal.returns
returns c =
    loads c.args.image.now (λ i. omega (arith, c.type_inv.image i)) _ _ _ (allowed c.image_right.ensures (ap not c.if-not-image_right.false))
    c.header_in-h.ensures (allowed c.has_rows.ensures (ap not c.if-not-has_rows.false)) c.sizes_of-z.ensures _ _
    c.copy_rows.ensures.shelves_after c.copy_rows.ensures.items_after c.audited.ensures
