-- `release_at`: the item is released on its shelf, then the shelf is merged with its neighbours. The code skips the second step where the shelf isn't
-- empty, and there that step changes nothing.
use Rattle.std.specs.Prelude.{◌≡◌, ◌≢◌}
use Rattle.numbers.specs.Library.{sym, ap, ◌∙◌, false, and-false, ne_eqb, arith}
use Rattle.numbers.specs.declared.{index.ShelfIndex.ShelfIndex}
use Rattle.rows.specs.declared.{item.ItemRow.ItemRow}
use Rattle.rows.specs.Prelude.{shelf_at_of}
use Rattle.rows.specs.State.{State}
use Rattle.search.specs.Search.{shelf_is_empty}
use Rattle.merge.specs.Merge.{joins, merge_below, merge_above, release_at}
use Rattle.merge.proofs.release_at.Goals as goal

-- a shelf that isn't empty joins neither neighbour
module _ (st : State) (on : ShelfIndex) (some : (shelf_at_of st.shelves on).is_empty ≢ 1) where
  not_empty : shelf_is_empty (shelf_at_of st.shelves on) ≡ false
  unfolding shelf_is_empty
  not_empty = ne_eqb (shelf_at_of st.shelves on).is_empty 1 some

  below-kept : merge_below st on ≡ st
  unfolding merge_below joins
  below-kept = rw not_empty

  above_kept : merge_above st on ≡ st
  unfolding merge_above joins
  above_kept = rw (not_empty, and-false)

  both-kept : merge_above (merge_below st on) on ≡ st
  both-kept = ap (λ (x : State). merge_above x on) below-kept ∙ above_kept

pub release_item-requires : goal.release_item-requires
release_item-requires c = (c.requires, ap (λ (v : ItemRow). v.shelf) c.item_there-i.ensures)

pub returns-then-release_item-clause-is : goal.returns-then-release_item-clause-is
unfolding release_at
returns-then-release_item-clause-is c = rw (← c.item_there-i.ensures, ← c.release_item.ensures.is) c.merge_around.ensures.is

pub returns-else-release_item-clause-is : goal.returns-else-release_item-clause-is
unfolding release_at
returns-else-release_item-clause-is c =
    rw (← c.item_there-i.ensures, ← c.release_item.ensures.is)
    (sym (both-kept _ _ (λ one. omega (arith, rw (c.release_item.ensures.empty, c.if-release_item.false) at one))))
