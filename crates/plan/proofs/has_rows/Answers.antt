-- `has_rows`: nothing is split, or the item alone and a row is freed; else the rows are counted.
use Rattle.numbers.specs.Library.{rules, sym, ◌∙◌, not-true}
use Rattle.plan.specs.Spare.{none_needed, freed_enough}
use Rattle.plan.specs.Plan.{has_rows}
use Rattle.plan.proofs.has_rows.Goals as goal
use Rattle.plan.proofs.has_rows.Goals.{then-not-p-2, else-not-p-2}

pub returns-then-not-is_none : goal.returns-then-not-is_none
unfolding has_rows
returns-then-not-is_none c =
    let a = c.args in
    elim c.if-not-p-2.branch [
      | then-not-p-2 w ↦ sym (none_needed a.h a.shelves.now a.items.now _ _ (search rules) (search rules))
      | else-not-p-2 w ↦ sym (freed_enough a.h a.shelves.now a.items.now _ _ c.if-not-p.true (sym w.is_none.ensures ∙ not-true w.is_none.result (sym w.value-is ∙ c.if-not-is_none.true)))
    ]

pub returns : goal.returns
unfolding has_rows
returns c = c.enough_rows.ensures
