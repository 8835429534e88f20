-- A shelf whose items are right is one free item exactly when no live width stands on it: so the width of its free items tells its empty flag.
-- Assumes nothing.
use Rattle.std.specs.Prelude.{◌≡◌, ◌≢◌, ◌&&◌, ◌∷◌, ◌+◌, ◌≤◌}
use Rattle.numbers.specs.Library.{refl, sym, ap, ◌∙◌, Bool, true, false, and-false, List, [], ℕ, ℕ_discrete, arith}
use Rattle.numbers.specs.Library.{lt-ltb, eq-eqb, eqb-true, ne_eqb, eqb}
use Rattle.numbers.specs.Prelude.{no_row, pick, never}
use Rattle.rows.specs.Prelude.{get, items}
use Rattle.rows.specs.declared.{header.Header.Header, shelf.ShelfRow.ShelfRow}
use Rattle.chains.specs.Prelude.{◌iff◌, first_of, Ends, Holds}
use Rattle.rules.specs.Prelude.{flag, item_next, one_free_of, ItemRight, along, at_left_of, sum_over}
use Rattle.audit_counts.specs.Counts.{live_in, live_of, rows_of, RightOf}

-- one item has no live width exactly when it is free
only_free : (free : Bool) (w : ℕ) → 1 ≤ w → free && true ≡ eqb (pick free 0 w + 0) 0
only_free true w k = refl
only_free false w k = sym (ne_eqb (w + 0) 0 (λ e. omega arith))

-- of two items that are not both free, one is live
some_live : (a b : Bool) (w v more : ℕ) → 1 ≤ w → 1 ≤ v → a && b ≡ false → pick a 0 w + (pick b 0 v + more) ≢ 0
some_live true true w v more j k e = never (sym e)
some_live true false w v more j k e = λ z. omega arith
some_live false b w v more j k e = λ z. omega arith

-- what is not live is all, exactly when nothing is live
none_live : (live gap all : ℕ) → live + gap ≡ all → eqb live 0 ≡ eqb gap all
none_live live gap all e = go (ℕ_discrete live 0) where
  go : Dec (live ≡ 0) → eqb live 0 ≡ eqb gap all
  go (yes z) = eq-eqb live 0 z ∙ sym (eq-eqb gap all (omega arith))
  go (no n) = ne_eqb live 0 n ∙ sym (ne_eqb gap all (λ q. omega (arith, n)))

module _ (h : Header) (I : List ℕ) (on : ℕ) (s : ShelfRow) (wide : 1 ≤ h.limits.shelf_width) (few : h.used_items ≤ no_row) where
  -- By the shelf's rows: there are some, since it has a width; one is free or live; of two or more, the first names a next one, and one is live.
  by_rows : (rows : List ℕ) → first_of rows ≡ s.first_item.0 → Ends (item_next I) h.used_items rows
      → Holds (λ d r. ItemRight h on d (get items I r)) (λ d r. along d r (get items I r)) (λ d. d.x ≡ s.x + h.limits.shelf_width) (at_left_of s) rows
      → one_free_of h I s.first_item.0 ≡ eqb (sum_over (live_of I) rows) 0
  unfolding one_free_of live_in along
  by_rows [] f l a = absurd (omega arith)
  by_rows (r ∷ []) f l a =
      rw (← f, lt-ltb r h.used_items l.0, eq-eqb (item_next I r) no_row l.1) (only_free (eqb (get items I r).allocated 0) (get items I r).width a.0.some_width)
  by_rows (r ∷ q ∷ rs) f l a =
      let live = some_live (eqb (get items I r).allocated 0) (eqb (get items I q).allocated 0) _ _ (sum_over (live_of I) rs) a.0.some_width a.1.0.some_width a.1.0.apart in
      rw (← f, ne_eqb (item_next I r) no_row (λ e. omega arith), ne_eqb _ 0 live, and-false)

  module _ (right : RightOf h I on s) where
    by_width : one_free_of h I s.first_item.0 ≡ eqb (sum_over (live_of I) (rows_of h I s)) 0
    unfolding RightOf rows_of
    by_width = by_rows (rows_of h I s) right.starts right.ends right.holds

    pub empty_by_width : (sum_over (live_of I) (rows_of h I s) ≡ 0) iff (one_free_of h I s.first_item.0 ≡ true)
    empty_by_width = (λ e. by_width ∙ eq-eqb _ 0 e, λ e. eqb-true _ 0 (sym by_width ∙ e))

    pub flag_by_gap : (gap : ℕ) → sum_over (live_of I) (rows_of h I s) + gap ≡ h.limits.shelf_width
        → flag (one_free_of h I s.first_item.0) ≡ flag (eqb gap h.limits.shelf_width)
    flag_by_gap gap e = ap flag (by_width ∙ none_live _ gap _ e)
