-- A shelf whose item rows are alike in two tables lies in both or in neither. Assumes nothing.
use Rattle.std.specs.Prelude.{◌≡◌, ◌∷◌}
use Rattle.numbers.specs.Library.{ℕ, ap, ◌∙◌, List, [], Memᴰ·append-left, Memᴰ·append-right}
use Rattle.numbers.specs.Prelude.{no_row}
use Rattle.rows.specs.Prelude.{get, items, body_of, links_of}
use Rattle.chains.specs.Prelude.{◌∈◌, Each}
use Rattle.chains.proofs.Prelude.{self, chain_frame}
use Rattle.rules.specs.Prelude.{Shelf, item, free, Holds, item_rows_of, all_item_rows, FreeListed}
use Rattle.rules.proofs.LiveRows.{live_row, free_row}

pub holds_frame : (I I' : List ℕ) (s : Shelf) → FreeListed s → ((r : ℕ) → r ∈ item_rows_of s.items → get items I' r ≡ get items I r) → Holds I s → Holds I' s
holds_frame I I' s l h o = record {
  in_order = chain_frame (item s.row) (λ r. body_of (get items I r)) (λ r. body_of (get items I' r)) no_row s.items (λ r m. ap body_of (h r m)) o.in_order;
  free_order = chain_frame free (λ r. links_of (get items I r)) (λ r. links_of (get items I' r)) no_row s.free
      (λ r m. ap links_of (h r (free_row s.items r (l.only r (rw self at m))))) o.free_order;
  live_unlinked = λ r m. ap links_of (h r (live_row s.items r m)) ∙ o.live_unlinked r m;
}

pub each_holds : (I I' : List ℕ) (xs : List Shelf) → Each FreeListed xs → ((r : ℕ) → r ∈ all_item_rows xs → get items I' r ≡ get items I r) → Each (Holds I) xs → Each (Holds I') xs
each_holds I I' [] l h o = tt
each_holds I I' (x ∷ xs) l h o = (
  holds_frame I I' x l.0 (λ r m. h r (Memᴰ·append-left (all_item_rows xs) m)) o.0,
  each_holds I I' xs l.1 (λ r m. h r (Memᴰ·append-right (item_rows_of x.items) m)) o.1,
)
