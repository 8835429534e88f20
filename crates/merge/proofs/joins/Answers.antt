use Rattle.numbers.specs.Library.{sym, ◌∙◌, eq-eqb, eqb-true, ne_eqb}
use Rattle.search.specs.Search.{shelf_is_empty}
use Rattle.merge.specs.Merge.{joins}
use Rattle.merge.proofs.joins.Goals as goal
use Rattle.merge.proofs.joins.Goals.{then-a-eq1, else-a-eq1}

pub returns-else-both_empty : goal.returns-else-both_empty
unfolding joins shelf_is_empty
returns-else-both_empty c =
    rw (← c.shelf-a.ensures, ← c.shelf-s.ensures)
    (elim c.if-a-eq1.branch [
      | then-a-eq1 w ↦ rw (eq-eqb _ _ w.if-a-eq1.true, ← w.both_empty-is, c.if-both_empty.false)
      | else-a-eq1 w ↦ rw (ne_eqb _ _ w.if-a-eq1.false) c.if-both_empty.false
    ])

pub returns-then-both_empty : goal.returns-then-both_empty
unfolding joins shelf_is_empty
returns-then-both_empty c =
    rw (← c.shelf-a.ensures, ← c.shelf-s.ensures)
    (elim c.if-a-eq1.branch [
      | then-a-eq1 w ↦ rw (eq-eqb _ _ w.if-a-eq1.true, ← w.both_empty-is, c.if-both_empty.true)
      | else-a-eq1 w ↦ absurd (w.if-a-eq1.false (eqb-true _ _ (sym w.both_empty-is ∙ c.if-both_empty.true)))
    ])
