-- The rows of a list, one after another. Assumes nothing.
use Rattle.std.specs.Prelude.{◌+◌, ◌≤◌, ◌≡◌, ◌≢◌, ◌∷◌, ◌++◌}
use Rattle.numbers.specs.Library.{ℕ, refl, Bool, true, false, List, [], append-nil, arith, add-one, eqb, length, eq-eqb, ne_eqb}
use Rattle.numbers.specs.Prelude.{pick}
use Rattle.rows.specs.Prelude.{get, items, shelves}
use Rattle.rows.specs.declared.{header.Header.Header, item.ItemRow.ItemRow, live.Live.Live}
use Rattle.live_rows.specs.Live.{live_of_rows, live_at, row_listed, rows_listed}
use Rattle.texts.specs.Lines.{PutsLines}
use Rattle.texts.specs.Answer.{text_of}
use Rattle.texts.specs.declared.answer.Answer.TheVariants as answer
use Rattle.script_rules.specs.Listing.{item_lines}
use Rattle.script_tells.specs.Listing.{Listed, listed_none}

module _ (h : Header) (S I : List ℕ) where
  pub row_few : (r : ℕ) → length (row_listed h S I r) ≤ 1
  unfolding row_listed
  row_few r = go (eqb (get items I r).allocated 1) where
    go : (b : Bool) → length (pick b (live_at h S I r ∷ []) []) ≤ 1
    go true = omega arith
    go false = omega arith

  pub rows_none : rows_listed h S I 0 ≡ []
  unfolding rows_listed
  rows_none = refl

  pub rows_more : (n : ℕ) → rows_listed h S I (n + 1) ≡ rows_listed h S I n ++ row_listed h S I n
  unfolding rows_listed
  rows_more n = rw add-one

  -- a row that has been read: it puts nothing, or its line
  module _ (r : ℕ) (i : ItemRow) (read : i ≡ get items I r) where
    pub listed_no_row : i.allocated ≢ 1 → (out : List ℕ) (at : ℕ) → Listed (row_listed h S I r) out at (record { count = 0; at = at }) out
    unfolding row_listed
    listed_no_row n out at = rw (← read, ne_eqb i.allocated 1 n) (listed_none out at)

    pub listed_row : i.allocated ≡ 1 → (l : Live) → l ≡ live_of_rows h (get shelves S i.shelf.0) i r → {out out' : List ℕ} {at end : ℕ}
        → PutsLines out at (text_of (answer.Listed l)) out' end → Listed (row_listed h S I r) out at (record { count = 1; at = end }) out'
    unfolding row_listed live_at item_lines
    listed_row e l f p = rw (← read, eq-eqb i.allocated 1 e, ← f) (record { puts = rw append-nil p; counted = refl })
