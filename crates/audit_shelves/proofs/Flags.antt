-- What one shelf row says, for the tests that look at one: its flag. Assumes nothing.
use Rattle.std.specs.Prelude.{◌≡◌, ◌≢◌, ◌≤◌, ◌<◌}
use Rattle.numbers.specs.Library.{List, ℕ, eq-eqb, ne_eqb, lt-ltb, le-ltb}
use Rattle.numbers.specs.Prelude.{no_row}
use Rattle.rows.specs.Prelude.{get, items}
use Rattle.rows.specs.declared.{header.Header.Header, shelf.ShelfRow.ShelfRow}
use Rattle.rules.specs.Prelude.{one_free_of, flag, Down, ShelfRight}
use Rattle.audit_shelves.specs.Placed.{ShelfPlaced, FlagRight}

-- ---- a shelf's empty flag

pub flag_unused : (h : Header) (I : List ℕ) (r : ℕ) → h.used_items ≤ r → 0 ≡ flag (one_free_of h I r)
unfolding one_free_of
flag_unused h I r e = rw (le-ltb _ _ e)

pub flag_live : (h : Header) (I : List ℕ) (r : ℕ) → r < h.used_items → (get items I r).allocated ≢ 0 → 0 ≡ flag (one_free_of h I r)
unfolding one_free_of
flag_live h I r e a = rw (lt-ltb _ _ e, ne_eqb _ _ a)

pub flag_followed : (h : Header) (I : List ℕ) (r : ℕ) → r < h.used_items → (get items I r).allocated ≡ 0 → (get items I r).next.0 ≢ no_row
    → 0 ≡ flag (one_free_of h I r)
unfolding one_free_of
flag_followed h I r e a n = rw (lt-ltb _ _ e, eq-eqb _ _ a, ne_eqb _ _ n)

pub flag_alone : (h : Header) (I : List ℕ) (r : ℕ) → r < h.used_items → (get items I r).allocated ≡ 0 → (get items I r).next.0 ≡ no_row
    → 1 ≡ flag (one_free_of h I r)
unfolding one_free_of
flag_alone h I r e a n = rw (lt-ltb _ _ e, eq-eqb _ _ a, eq-eqb _ _ n)

-- ---- what is asked of a shelf

pub whole : {h : Header} {I : List ℕ} {d : Down} {s : ShelfRow} → ShelfPlaced h d.prev d.column d.y s → FlagRight s (flag (one_free_of h I s.first_item.0)) d.under_empty → ShelfRight h I d s
whole p f = record {
  back = p.back;
  at_column = p.at_column;
  at_depth = p.at_depth;
  some_depth = p.some_depth;
  in_column = p.in_column;
  flag_right = f.flag_is;
  apart = f.apart;
}
