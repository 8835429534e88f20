-- The walk of a free list, item by item, over a table that has all its rows. Assumes nothing.
use Rattle.std.specs.Prelude.{◌<◌, ◌≤◌, ◌≡◌, ◌≢◌}
use Rattle.numbers.specs.Library.{ℕ, sym, ap, ◌∙◌, List, arith, length, le-leb, lt-leb}
use Rattle.numbers.specs.Prelude.{no_row, no_item}
use Rattle.rows.specs.Prelude.{rows, get, rows_few, items}
use Rattle.rows.specs.declared.item.ItemRow.{ItemRow}
use Rattle.chains.specs.Prelude.{rows_from, EndsFrom}
use Rattle.chains.proofs.Prelude.{Onward, ends_onward, met_end}
use Rattle.rules.specs.Prelude.{free_next}
use Rattle.search.specs.Search.{first_wide}

module _ (I : List ℕ) where
  -- the rows of the list from row `at` on
  abbrev pub list_from : ℕ → List ℕ
  list_from at = rows_from (free_next I) (rows items I) at

  -- The loop has come to row `at`: from there on the list ends, and the first item there that is wide enough is the first of the whole list.
  pub record AtItem (width first at : ℕ) : Type 0 where
    pub ends : EndsFrom (free_next I) (rows items I) at
    pub same : first_wide I width (list_from first) ≡ first_wide I width (list_from at)

module _ {I : List ℕ} {width first at : ℕ} (turn : AtItem I width first at) where
  pub ended : at ≡ no_row → no_item ≡ first_wide I width (list_from I first)
  unfolding first_wide
  ended e = sym (turn.same ∙ ap (first_wide I width) (met_end (free_next I) (rows items I) at e))

  module _ (some : at ≢ no_row) where
    on : Onward (free_next I) (rows items I) (rows_few items I) at
    on = ends_onward (free_next I) (rows items I) (rows_few items I) at some turn.ends

    pub row_there : at < rows items I
    row_there = on.within

    module _ (v : ItemRow) (is : v ≡ get items I at) where
      pub wide : width ≤ v.width → record { 0 = at } ≡ first_wide I width (list_from I first)
      unfolding first_wide
      wide b = sym (turn.same ∙ rw (on.rows_are, first_wide, ← is, le-leb width v.width b))

      pub past : v.width < width → AtItem I width first v.next_unallocated.0
      unfolding first_wide
      past b = rw is (record { ends = on.rest; same = turn.same ∙ rw (on.rows_are, first_wide, lt-leb width (get items I at).width (rw (← is) b)) })

      pub shorter : length (list_from I v.next_unallocated.0) < length (list_from I at)
      shorter = rw (is, on.rows_are) (omega arith)
