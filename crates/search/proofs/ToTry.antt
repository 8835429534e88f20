-- The walk to the next shelf to try, shelf by shelf, over a table that has all its rows. Assumes nothing.
use Rattle.std.specs.Prelude.{◌<◌, ◌≤◌, ◌≡◌, ◌≢◌}
use Rattle.numbers.specs.Library.{ℕ, refl, Bool, true, false, not, List, arith, length}
use Rattle.numbers.specs.Prelude.{no_row}
use Rattle.rows.specs.Prelude.{rows, get, rows_few, shelves}
use Rattle.rows.specs.declared.shelf.ShelfRow.{ShelfRow}
use Rattle.chains.specs.Prelude.{rows_from, EndsFrom}
use Rattle.chains.proofs.Prelude.{Onward, ends_onward}
use Rattle.rules.specs.Prelude.{shelf_next}
use Rattle.search.specs.Search.{skipped_by, PastSkipped, past, NextToTry}
use Rattle.search.proofs.Tests.{fails, holds}

-- the rows of the chain from row `at` on
abbrev pub chain_from : List ℕ → ℕ → List ℕ
chain_from S at = rows_from (shelf_next S) (rows shelves S) at

-- The loop has come to row `at` past shelves that are skipped, and from there on the chain ends.
pub record AtSkipped (S : List ℕ) (depth goodTo below : ℕ) (holding : Bool) (from at : ℕ) : Type 0 where
  pub ends : EndsFrom (shelf_next S) (rows shelves S) at
  pub passed : PastSkipped S depth goodTo below holding from at

module _ {S : List ℕ} {depth goodTo below : ℕ} {holding : Bool} {from at : ℕ} (turn : AtSkipped S depth goodTo below holding from at) where
  pub none_left : at ≡ no_row → NextToTry S depth goodTo below holding from no_row
  none_left e = record { passed = rw e at turn.passed; tried = λ some. absurd (some refl) }

  module _ (some : at ≢ no_row) where
    on : Onward (shelf_next S) (rows shelves S) (rows_few shelves S) at
    on = ends_onward (shelf_next S) (rows shelves S) (rows_few shelves S) at some turn.ends

    pub row_there : at < rows shelves S
    row_there = on.within

    module _ (s : ShelfRow) (is : s ≡ get shelves S at) where
      pub shorter : length (chain_from S s.next.0) < length (chain_from S at)
      shorter = rw (is, on.rows_are) (omega arith)

      module _ {pass : Bool} (told : pass ≡ skipped_by depth goodTo below holding s) where
        pub to_try : not pass ≡ true → NextToTry S depth goodTo below holding from at
        to_try e = record { passed = turn.passed; tried = λ _. rw is at (fails told e) }

        pub onward : s.height ≤ 65535 → not pass ≡ false → AtSkipped S depth goodTo below holding from s.next.0
        onward short e = rw is (record { ends = on.rest; passed = past at turn.passed some (rw is at short) (rw is at (holds told e)) })
