-- The list: row by row, a used row is listed exactly when its flag is 1, and what is listed of it is what the tables tell. Assumes nothing.
use Rattle.std.specs.Prelude.{◌≤◌, ◌<◌, ◌≡◌, ◌∷◌}
use Rattle.numbers.specs.Library.{ℕ, zero, suc, refl, sym, ap, ◌∙◌, Option, none, some, List, [], arith, eqb}
use Rattle.numbers.specs.Prelude.{pick}
use Rattle.rows.specs.Prelude.{get, items}
use Rattle.rows.specs.declared.header.Header.{Header}
use Rattle.rules.specs.Prelude.{Atlas, live_of, Found, find, live_in, lives_below, list, Stores, room_in, WellFormed}
use Rattle.laws.proofs.Shape.Finding.{FoundAt, find_at}
use Rattle.live_rows.specs.Live.{live_at, row_listed, rows_listed}
use Rattle.rules.proofs.Flags.{flag_one}
use Rattle.bridge.proofs.Search.LookUp.{idle, told, used_is, allocated_says}

module _ (h : Header) (S I : List ℕ) (a : Atlas) (stored : Stores h S I a) (formed : WellFormed (room_in S I) a) where
  row_says : (r : ℕ) → r < a.rows.items.used → live_in a r ≡ row_listed h S I r
  unfolding live_in row_listed
  row_says r b = go (find r [] a.shelves) (find_at r [] a.shelves) where
    go : (o : Option Found) → FoundAt r a.shelves a.shelves o
        → elim o [ none ↦ [] | some w ↦ pick w.item.this.live (live_of a.limits w.shelf.this w.item.this ∷ []) [] ]
        ≡ pick (eqb (get items I r).allocated 1) (live_at h S I r ∷ []) []
    go none out = rw (idle h S I a stored formed.sound r b out)
    go (some w) found = rw (allocated_says h S I a stored formed w r found, flag_one w.item.this.live, told h S I a stored formed w r found)

  below_says : (n : ℕ) → n ≤ a.rows.items.used → lives_below a n ≡ rows_listed h S I n
  unfolding lives_below rows_listed
  below_says zero b = refl
  below_says (suc n) b = rw (below_says n (omega arith), row_says n (omega arith))

  pub list_says : list a ≡ rows_listed h S I h.used_items
  unfolding list
  list_says = below_says a.rows.items.used (omega arith) ∙ ap (rows_listed h S I) (sym (used_is h S I a stored formed))
