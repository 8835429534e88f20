use Rattle.numbers.specs.Library.{refl, ◌∙◌, arith}
use Rattle.promises.specs.Prelude.{written}
use Rattle.live_rows.specs.Live.{shelf_of_read}
use Rattle.listing.proofs.Listed.{length-written, written_next, none_listed, idle_listed, live_listed, has_place, place_there}
use Rattle.listing.proofs.list.list_rows.Goals as goal
use Rattle.listing.proofs.list.list_rows.Goals.{then-i-eq1, else-i-eq1}

pub loop-row-init : goal.loop-row-init
unfolding written
loop-row-init c = none_listed _ _ _ _ _ refl

pub there-i-requires : goal.there-i-requires
there-i-requires c = omega (arith, c.requires.0.used_there)

pub live_of_item-requires : goal.live_of_item-requires
live_of_item-requires c = shelf_of_read c.requires.0 c.loop-row.row (omega arith) _ c.there-i.ensures c.if-i-eq1.true

pub put_there-requires : goal.put_there-requires
put_there-requires c =
    place_there _ c.loop-row.invariant (has_place _ _ _ _ c.loop-row.invariant _ c.there-i.ensures c.if-i-eq1.true c.args.h.used_items (omega arith) _ c.requires.1)

pub overflow_add-count : goal.overflow_add-count
overflow_add-count c = omega (arith, c.loop-row.invariant.few)

pub loop-row-preserved : goal.loop-row-preserved
loop-row-preserved c =
    elim c.if-i-eq1.branch [
      | then-i-eq1 w ↦ rw (w.out-is, w.count-is) (live_listed _ _ _ _ c.loop-row.invariant _ c.there-i.ensures w.if-i-eq1.true _ w.live_of_item.ensures _ (λ ls n e. w.put_there.ensures ∙ written_next _ _ ls n e))
      | else-i-eq1 w ↦ rw (w.out-is, w.count-is) (idle_listed _ _ _ _ c.loop-row.invariant _ c.there-i.ensures w.if-i-eq1.false)
    ]

pub shape_of-out : goal.shape_of-out
shape_of-out c = rw c.loop-row.invariant.stored (length-written _ _ _)
