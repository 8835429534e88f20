-- The search as a whole, where an atlas is stored in the tables: it holds the rows of what the rules' search holds, or nothing where that holds
-- nothing. Assumes nothing.
use Rattle.std.specs.Prelude.{◌≤◌, ◌<◌, ◌≡◌, ◌∷◌}
use Rattle.numbers.specs.Library.{ℕ, sym, ap, ◌∙◌, List, [], Memᴰ·append-left, Memᴰ·append-right, arith}
use Rattle.numbers.specs.Prelude.{no_row}
use Rattle.numbers.specs.declared.request.Asked.{Asked}
use Rattle.rows.specs.Prelude.{get, rows_few, items, shelves, links_of}
use Rattle.rows.specs.declared.header.Header.{Header}
use Rattle.chains.specs.Prelude.{◌∈◌, Each, rows_from}
use Rattle.chains.proofs.Prelude.{rows_of, self}
use Rattle.rules.specs.Prelude.{Shelf, Atlas, free, shelf, Holds, Stores, header_of, room_in, all_item_rows, item_rows_of, FreeListed, WellFormed, shelf_next, free_next}
use Rattle.rules.specs.Search as rule
use Rattle.rules.proofs.LiveRows.{free_row}
use Rattle.laws.proofs.Stored.Follow.{chain_met}
use Rattle.laws.proofs.Stored.FreeList.{free_names}
use Rattle.laws.proofs.Stored.Shelves.{shelf_names}
use Rattle.search.specs.Search as table
use Rattle.bridge.proofs.Search.Walking.{Ready, held_rows, walk_says}

-- every shelf is ready for a walk
ready_each : (I : List ℕ) (used : ℕ) → used ≤ no_row → (ss : List Shelf) → Each (Holds I) ss → Each FreeListed ss → ((r : ℕ) → r ∈ all_item_rows ss → r < used) → Each (Ready I used) ss
ready_each I used most [] holds listed below = tt
ready_each I used most (s ∷ rest) holds listed below =
    let mine : (r : ℕ) → r ∈ s.free → r ∈ item_rows_of s.items = λ r m. free_row s.items r (listed.0.only r m) in
    let under : (r : ℕ) → r ∈ s.free → r < used = λ r m. below r (Memᴰ·append-left (all_item_rows rest) (mine r m)) in (
      record {
        holds = holds.0;
        met = chain_met free (λ r. links_of (get items I r)) (free_next I) used (free_names I) most no_row s.free (λ r m. under r (rw self at m)) holds.0.free_order ∙ self s.free;
        listed = λ r m. (mine r m, λ e. omega (arith, under r m));
      },
      ready_each I used most rest holds.1 listed.1 (λ r m. below r (Memᴰ·append-right (item_rows_of s.items) m)),
    )

-- the walk from the first shelf: the tables' walk meets the rows of the shelves, one after another
pub search_says : (h : Header) (S I : List ℕ) (a : Atlas) → Stores h S I a → WellFormed (room_in S I) a
    → (q : Asked) → table.search h S I q ≡ held_rows (rule.search q a.shelves)
unfolding table.search rule.search header_of room_in
search_says h S I a stored formed q =
    let sound = formed.sound in
    let most_items : a.rows.items.used ≤ no_row = omega (arith, sound.in_room.items, rows_few items I) in
    let most_shelves : a.rows.shelves.used ≤ no_row = omega (arith, sound.in_room.shelves, rows_few shelves S) in
    let met : rows_from (shelf_next S) a.rows.shelves.used 0 ≡ rows_of shelf a.shelves =
    ap (rows_from (shelf_next S) a.rows.shelves.used) (sym formed.shaped.first)
    ∙ chain_met shelf (get shelves S) (shelf_next S) a.rows.shelves.used (shelf_names h S I) most_shelves no_row a.shelves sound.shelf_rows.serving_used stored.shelf_chain in
    rw (stored.header, met)
    (walk_says S I a.rows.items.used q rule.nothing [] a.shelves no_row
    (ready_each I a.rows.items.used most_items a.shelves stored.shelf_items sound.free_listed sound.item_rows.serving_used) stored.shelf_chain)
