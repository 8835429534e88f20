-- `enough_rows`: shelf rows are judged first; the item rows that both splits need are then at most the unused ones, or at most those and the freed.
use Rattle.std.specs.Prelude.{◌+◌, ◌≡◌}
use mir.Val.{bool_byte}
use Rattle.numbers.specs.Library.{ℕ, Bool, true, false, arith, le-leb, not-true, not-false}
use Rattle.plan.specs.Spare.{count, enough_rows, spare_items, freed_items, few_splits, few_items}
use Rattle.numbers.specs.Library.{ap, not}
use Rattle.plan.proofs.enough_rows.Goals as goal

-- a split counts 1, as a number
counted : (split : Bool) (n : ℕ) → n ≡ bool_byte split → n ≡ count split
unfolding count
counted true n e = e
counted false n e = e

pub returns-then-not-enough_shelves : goal.returns-then-not-enough_shelves
unfolding enough_rows spare_items
returns-then-not-enough_shelves c = rw (← c.enough_shelves.ensures, not-true c.enough_shelves.result (ap not c.if-not-enough_shelves.true))

pub overflow_add-needed : goal.overflow_add-needed
unfolding enough_rows spare_items
overflow_add-needed c = omega (arith, few_splits _ _ (counted _ _ c.from-2.ensures), few_splits _ _ (counted _ _ c.from.ensures))

pub returns-then-needed-never_used : goal.returns-then-needed-never_used
unfolding enough_rows spare_items
returns-then-needed-never_used c =
    let args = c.args in
    let rows-for-shelf : c.from.result ≡ count args.shelf_split = counted _ _ c.from.ensures in
    rw (
      ← c.enough_shelves.ensures,
      not-false c.enough_shelves.result (ap not c.if-not-enough_shelves.false),
      ← rows-for-shelf,
      ← counted _ _ c.from-2.ensures,
      ← c.capacity.ensures,
      ← c.unused-never_used.ensures,
      le-leb (c.from.result + c.from-2.result) (c.unused-never_used.result + freed_items args.h args.items.now) (omega arith),
    )
    (le-leb _ _ c.if-needed-never_used.true)

pub overflow_add-result : goal.overflow_add-result
unfolding enough_rows spare_items
overflow_add-result c = omega (arith, few_items _ _ _ c.freed_items.ensures, c.unused-never_used.ensures)

pub returns-else-needed-never_used : goal.returns-else-needed-never_used
unfolding enough_rows spare_items
returns-else-needed-never_used c =
    let args = c.args in
    let rows-for-shelf : c.from.result ≡ count args.shelf_split = counted _ _ c.from.ensures in
    rw (
      ← c.enough_shelves.ensures,
      not-false c.enough_shelves.result (ap not c.if-not-enough_shelves.false),
      ← rows-for-shelf,
      ← counted _ _ c.from-2.ensures,
      ← c.capacity.ensures,
      ← c.unused-never_used.ensures,
      ← c.freed_items.ensures,
    )
