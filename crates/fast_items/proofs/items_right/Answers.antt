use Rattle.std.proofs.lemmas.Option.{IfSome_then}
use Rattle.numbers.specs.Library.{arith}
use Rattle.fast_items.proofs.Places.{few_rows, kept_told, passable}
use Rattle.fast_items.proofs.Turns.{at_first, free_fits, at_ended, at_lives, at_free, at_both, two_more, left_out, left_on}
use Rattle.fast_items.proofs.items_right.Goals as goal

pub loop-p-init : goal.loop-p-init
loop-p-init c = rw c.first-p.ensures (at_first _ _ _ _ _ _ (omega arith) (omega arith) c.requires.1)

pub overflow_add-free : goal.overflow_add-free
overflow_add-free c = omega (arith, free_fits (few_rows _ c.requires.0) c.loop-p.invariant)

pub overflow_add-gap : goal.overflow_add-gap
overflow_add-gap c =
    let near = c.fits.ensures.sound c.if-not-fits.false in
    let fits = passable (few_rows _ c.requires.0) c.lives-p.ensures.kept c.if-p-h.true _ c.item_from-i.ensures near in
    omega (arith, c.loop-p.invariant.gap_most, c.lives-p.ensures.further, fits.1, c.item_from-i.type_inv)

pub past-p-requires : goal.past-p-requires
past-p-requires c =
    let near = c.fits.ensures.sound c.if-not-fits.false in
    passable (few_rows _ c.requires.0) c.lives-p.ensures.kept c.if-p-h.true _ c.item_from-i.ensures near

pub past-p-requires-then-p-h-2 : goal.past-p-requires-then-p-h-2
past-p-requires-then-p-h-2 c =
    let few = few_rows _ c.requires.0 in
    let near = c.fits.ensures.sound c.if-not-fits.false in
    let kept = kept_told few c.lives-p.ensures.kept c.if-p-h.true _ c.item_from-i.ensures near (omega (arith, c.item_from-i.type_inv)) _ c.past-p.ensures in
    let near' = c.fits-then-p-h-2.ensures.sound c.if-not-fits-2.false in
    passable few kept c.if-p-h-2.true _ c.item_from-j.ensures near'

pub loop-p-smaller-then-p-h-2 : goal.loop-p-smaller-then-p-h-2
loop-p-smaller-then-p-h-2 c =
    let few = few_rows _ c.requires.0 in
    let there = at_lives few c.loop-p.invariant c.loop-p-test.true c.lives-p.ensures in
    let near = c.fits.ensures.sound c.if-not-fits.false in
    let free = c.free_of.ensures.sound c.if-not-free_of.false in
    let live = c.live_of.ensures.sound c.if-not-live_of.false in
    let near' = c.fits-then-p-h-2.ensures.sound c.if-not-fits-2.false in
    let both = at_both few there c.if-p-h.true _ c.item_from-i.ensures near (omega (arith, c.item_from-i.type_inv)) free _ c.past-p.ensures c.if-p-h-2.true _ c.item_from-j.ensures near' (omega (arith, c.item_from-j.type_inv)) live _ c.past-p-then-p-h-2.ensures in
    let more = two_more c.lives-p.ensures c.item_from-i.result c.item_from-j.result _ _ c.past-p.ensures c.past-p-then-p-h-2.ensures in
    left_on _ c.loop-p.p c.past-p-then-p-h-2.result (few_rows _ c.requires.0) c.loop-p-test.true more both.kept

-- past a free item and the live one after it
pub loop-p-preserved-then-p-h-2 : goal.loop-p-preserved-then-p-h-2
loop-p-preserved-then-p-h-2 c =
    let few = few_rows _ c.requires.0 in
    let there = at_lives few c.loop-p.invariant c.loop-p-test.true c.lives-p.ensures in
    let near = c.fits.ensures.sound c.if-not-fits.false in
    let free = c.free_of.ensures.sound c.if-not-free_of.false in
    let live = c.live_of.ensures.sound c.if-not-live_of.false in
    let near' = c.fits-then-p-h-2.ensures.sound c.if-not-fits-2.false in
    at_both few there c.if-p-h.true _ c.item_from-i.ensures near (omega (arith, c.item_from-i.type_inv)) free _ c.past-p.ensures c.if-p-h-2.true _ c.item_from-j.ensures near' (omega (arith, c.item_from-j.type_inv)) live _ c.past-p-then-p-h-2.ensures

pub loop-p-smaller-else-p-h-2 : goal.loop-p-smaller-else-p-h-2
loop-p-smaller-else-p-h-2 c = left_out _ c.loop-p.p c.past-p.result (few_rows _ c.requires.0) c.loop-p-test.true c.loop-p.invariant.kept (omega arith)

-- past a free item, after which no row comes
pub loop-p-preserved-else-p-h-2 : goal.loop-p-preserved-else-p-h-2
loop-p-preserved-else-p-h-2 c =
    let few = few_rows _ c.requires.0 in
    let there = at_lives few c.loop-p.invariant c.loop-p-test.true c.lives-p.ensures in
    let near = c.fits.ensures.sound c.if-not-fits.false in
    let free = c.free_of.ensures.sound c.if-not-free_of.false in
    at_free few there c.if-p-h.true _ c.item_from-i.ensures near (omega (arith, c.item_from-i.type_inv)) free _ c.past-p.ensures (omega arith)

pub loop-p-smaller : goal.loop-p-smaller
loop-p-smaller c = left_out _ c.loop-p.p c.lives-p.result (few_rows _ c.requires.0) c.loop-p-test.true c.loop-p.invariant.kept (omega arith)

-- past live items, after which no row comes
pub loop-p-preserved : goal.loop-p-preserved
loop-p-preserved c =
    at_lives (few_rows _ c.requires.0) c.loop-p.invariant c.loop-p-test.true c.lives-p.ensures

pub returns : goal.returns
returns c = IfSome_then c.at_end.result c.at_end.ensures (λ w o. at_ended (few_rows _ c.requires.0) c.loop-p.invariant o)
