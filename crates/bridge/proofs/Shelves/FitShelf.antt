-- The shelf of a grant is made to fit: split where the rules split it, else left as it is. Assumes nothing.
use Rattle.std.specs.Prelude.{◌<◌, ◌≤◌, ◌+◌, ◌^◌, ◌≡◌, ◌∷◌}
use Rattle.numbers.specs.Library.{true, List, arith, ltb-true}
use Rattle.numbers.specs.Prelude.{large_enough_to_split, both}
use Rattle.numbers.specs.declared.request.Asked.{Asked}
use Rattle.chains.specs.Prelude.{back_onto}
use Rattle.rows.specs.Prelude.{rows, get, items, shelves}
use Rattle.rules.specs.Prelude.{Shelf, Atlas, is_empty_of, splits_shelf, upper_part, lower_part, shelf_taken, item_taken, rows_left_of}
use Rattle.rows.specs.State.{State}
use Rattle.plan.specs.declared.Plan.{Plan}
use Rattle.grant.specs.Grant.{fit_shelf, fits_split}
use Rattle.bridge.proofs.Stands.{Stands, on_row}
use Rattle.bridge.proofs.LeadsTo.{Leads}
use Rattle.bridge.proofs.Shelves.EmptyShelf.{lone_item_lem}
use Rattle.bridge.proofs.Shelves.Split.{split_leads}

module _ (st : State) (a : Atlas) (bs : List Shelf) (s : Shelf) (ys : List Shelf) (asked : Asked) (are : a.shelves ≡ back_onto bs (s ∷ ys)) (stands : Stands st a) where
  -- a shelf that is split is empty and deep enough, so its one free item is that of the upper part
  pub fit_split : splits_shelf asked s ≡ true → s.y + s.depth < 2 ^ 16
      → 0 < rows_left_of (rows shelves st.shelves) a.rows.shelves → 0 < rows_left_of (rows items st.items) a.rows.items
      → (p : Plan) → p.shelf_split ≡ true → p.shelf ≡ on_row s.row → p.shelf_row ≡ get shelves st.shelves s.row → p.depth ≡ asked.depth
      → Leads st (fit_shelf st p)
      (record { limits = a.limits; shelves = back_onto bs (upper_part asked.depth s ∷ lower_part a.limits a.rows asked.depth s ∷ ys); rows = item_taken (shelf_taken a.rows) })
  unfolding splits_shelf
  fit_split e low shelf-left item-left p split at_shelf as_read deep =
      let (empty, large) = both (is_empty_of s.items) (large_enough_to_split asked.depth s.depth) e in
      let (i, lone, is_free) = lone_item_lem s.items empty in
      let within : asked.depth ≤ s.depth = omega (arith, ltb-true (asked.depth + 8) s.depth large) in
      rw (fits_split st p split, at_shelf, as_read, deep) (split_leads st a bs s ys i asked.depth are lone is_free within low stands shelf-left item-left)
