-- One turn along the shelf chain. Assumes nothing.
use Rattle.std.specs.Prelude.{◌≡◌, ◌≢◌, ◌+◌, ◌-◌, ◌≤◌, ◌<◌}
use Rattle.numbers.specs.Library.{false, List, ℕ, arith, eq-eqb, ne_eqb, eqb}
use native.Mathlib.Nat.{sub-zero}
use Rattle.numbers.specs.Prelude.{no_row}
use Rattle.rows.specs.Prelude.{get, shelves}
use Rattle.rows.specs.declared.{header.Header.Header, shelf.ShelfRow.ShelfRow}
use Rattle.rules.specs.Prelude.{shelf_next, Down, ShelfRight, down, at_top_of, AllColumns, Rule2}
use Rattle.chains.proofs.Prelude.{Deciding, begins, onward}

-- where the walk of rule 2 stands
pub record AtShelf (h : Header) (S I : List ℕ) (cur fuel : ℕ) (d : Down) : Type 0 where
  pub walk :
      Deciding (shelf_next S) (λ d r. ShelfRight h I d (get shelves S r)) (λ d r. down h d r (get shelves S r)) (AllColumns h) h.used_shelves
      (Rule2 h S I) cur fuel d

pub at_top : (h : Header) (S I : List ℕ) → h.used_shelves ≤ no_row → AtShelf h S I 0 (h.used_shelves - 0) at_top_of
unfolding Rule2
at_top h S I b = rw (sub-zero h.used_shelves) (record { walk = begins b })

module _ {h : Header} {S I : List ℕ} {cur fuel : ℕ} {d : Down} (w : AtShelf h S I cur fuel d) (ne : cur ≢ no_row) (s : ShelfRow) (e : s ≡ get shelves S cur) where
  past : {left : ℕ} → left + 1 ≡ fuel → cur < h.used_shelves → ShelfRight h I d s → AtShelf h S I s.next.0 left (down h d cur s)
  past {left} f u o = let one : fuel - 1 ≡ left = omega arith in rw (e, ← one) (record { walk = onward w.walk ne (omega arith) u (rw e at o) })

  -- past a shelf that ends its column, and past one that does not
  pub next_column : {left : ℕ} → left + 1 ≡ fuel → cur < h.used_shelves → ShelfRight h I d s → d.y + s.height ≡ h.limits.height
      → AtShelf h S I s.next.0 left (record { prev = cur; column = d.column + 1; y = 0; under_empty = false })
  unfolding down
  next_column f u o q = rw (eq-eqb _ _ q) at (past f u o)

  pub same_column : {left : ℕ} → left + 1 ≡ fuel → cur < h.used_shelves → ShelfRight h I d s → d.y + s.height ≢ h.limits.height
      → AtShelf h S I s.next.0 left (record { prev = cur; column = d.column; y = d.y + s.height; under_empty = eqb s.is_empty 1 })
  unfolding down
  same_column f u o q = rw (ne_eqb _ _ q) at (past f u o)
