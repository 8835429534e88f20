use Rattle.numbers.specs.Library.{refl, arith}
use Rattle.live_rows.specs.Live.{shelf_of_read}
use Rattle.listing.proofs.Listed.{none_listed, idle_listed, live_listed, has_place}
use Rattle.surface_list.specs.Lives.{laid}
use Rattle.surface_list.proofs.Laid.{laid_next}
use Rattle.surface_list.proofs.lay_rows.Goals as goal
use Rattle.surface_list.proofs.lay_rows.Goals.{then-i-eq1, else-i-eq1}

pub loop-row-init : goal.loop-row-init
unfolding laid
loop-row-init c = none_listed _ _ _ _ _ refl

pub there-i-requires : goal.there-i-requires
there-i-requires c = omega (arith, c.requires.0.used_there)

pub live_of_item-requires : goal.live_of_item-requires
live_of_item-requires c = shelf_of_read c.requires.0 c.loop-row.row (omega arith) _ c.there-i.ensures c.if-i-eq1.true

pub loop-row-preserved : goal.loop-row-preserved
loop-row-preserved c =
    elim c.if-i-eq1.branch [
      | then-i-eq1 w ↦ rw (w.out-is, w.count-is) (live_listed _ _ _ _ c.loop-row.invariant _ c.there-i.ensures w.if-i-eq1.true _ w.live_of_item.ensures _ (λ ls n e. laid_next _ _ ls n e))
      | else-i-eq1 w ↦ rw (w.out-is, w.count-is) (idle_listed _ _ _ _ c.loop-row.invariant _ c.there-i.ensures w.if-i-eq1.false)
    ]

pub bounds-out-count : goal.bounds-out-count
bounds-out-count c =
    has_place _ _ _ _ c.loop-row.invariant _ c.there-i.ensures c.if-i-eq1.true c.args.h.used_items (omega arith) _ (omega (arith, c.requires.1))
