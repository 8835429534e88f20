-- What a search relies on, so that it needs to test no row and to count no step. It follows from an audit that passes. Assumes nothing.
use Rattle.std.specs.Prelude.{◌≤◌}
use Rattle.numbers.specs.Library.{ℕ, List}
use Rattle.rows.specs.Prelude.{rows, get, items, shelves}
use Rattle.rows.specs.declared.header.Header.{Header}
use Rattle.chains.specs.Prelude.{Each, rows_from, EndsFrom}
use Rattle.rules.specs.Prelude.{shelf_next, free_next}

-- From the shelf in row `at` on: the tables have all the used rows, and among these the shelf chain ends, and the free list of each shelf on it.
pub record WalkableFrom (h : Header) (S I : List ℕ) (at : ℕ) : Type 0 where
  pub shelves_fit : h.used_shelves ≤ rows shelves S
  pub items_fit : h.used_items ≤ rows items I
  pub chain_ends : EndsFrom (shelf_next S) h.used_shelves at
  pub lists_end : Each (λ r. EndsFrom (free_next I) h.used_items (get shelves S r).first_unallocated.0) (rows_from (shelf_next S) h.used_shelves at)

-- the shelf chain starts at row 0
abbrev pub Walkable : Header → List ℕ → List ℕ → Type 0
Walkable h S I = WalkableFrom h S I 0
