-- An atlas that lies in a header and two tables is the one that is met there. Assumes nothing.
use Rattle.std.specs.Prelude.{◌≤◌, ◌<◌, ◌≡◌}
use Rattle.numbers.specs.Library.{ℕ, sym, ap, ◌∙◌, not, List, map, arith, eqb}
use Rattle.numbers.specs.Prelude.{no_row}
use Rattle.rows.specs.Prelude.{get, rows_few, items, with_item_next, with_generation, shelves, Body, body_of, links_of}
use Rattle.pool.specs.Pool.{freed_item_row}
use Rattle.rows.specs.declared.{header.Header.Header, item.ItemRow.ItemRow, shelf.ShelfRow.ShelfRow}
use Rattle.chains.specs.Prelude.{◌∈◌, Each, rows_from}
use Rattle.chains.proofs.Prelude.{self, each_frame, each_map, each_both}
use Rattle.rules.specs.Prelude.{Item, Shelf, Freed, Atlas, item, free, shelf, freed_shelf, freed_item_of, Holds, header_of, Stores, room_in, item_rows_of, FreeListed}
use Rattle.rules.specs.Prelude.{WellFormed, shelf_next, item_next, free_next, shelves_met, items_met, free_met, freed_shelves_met, freed_items_met, item_in_of, shelf_in}
use Rattle.rules.specs.Prelude.{freed_in, atlas_in}
use Rattle.rules.proofs.LiveRows.{free_row}
use Rattle.laws.proofs.Stored.Lists.{read_all}
use Rattle.laws.proofs.Stored.Follow.{Says, chain_each, chain_says, chain_met}
use Rattle.laws.proofs.Stored.Flags.{flag_live}
use Rattle.laws.proofs.Stored.Items.{item_names}
use Rattle.laws.proofs.Stored.FreeList.{free_names}
use Rattle.laws.proofs.Stored.Shelves.{shelf_names}
use Rattle.laws.proofs.Stored.Freed.{freed_shelf-next, freed_item-next}

-- ---- an element is what is read from its row

item_read : (I : List ℕ) (on : ℕ) (i : Item) (p n : ℕ) → body_of (get items I i.row) ≡ (item on).says p i n → item_in_of I i.row ≡ i
unfolding body_of item_in_of
item_read I on i p n e = λ z. record {
  row = i.row;
  x = ap (λ (b : Body). b.x) e z;
  width = ap (λ (b : Body). b.width) e z;
  live = (ap (λ (b : Body). not (eqb b.allocated 0)) e ∙ flag_live i.live) z;
  generation = ap (λ (b : Body). b.generation) e z;
}

freed_read : (I : List ℕ) (f : Freed) (p n : ℕ) → get items I f.row ≡ freed_item_of.says p f n → freed_in I f.row ≡ f
unfolding freed_in freed_item_row with_item_next with_generation
freed_read I f p n e = λ z. record { row = f.row; generation = ap (λ (v : ItemRow). v.generation) e z }

-- ---- the whole, at the header that the atlas gives

module _ (S I : List ℕ) (a : Atlas) (l : Stores (header_of a) S I a) (k : WellFormed (room_in S I) a) where
  few_shelves : a.rows.shelves.used ≤ no_row
  unfolding room_in
  few_shelves = omega (arith, k.sound.in_room.shelves, rows_few shelves S)

  few_items : a.rows.items.used ≤ no_row
  unfolding room_in
  few_items = omega (arith, k.sound.in_room.items, rows_few items I)

  -- what is said of a shelf, in its own row and in those of its items
  record Said (s : Shelf) : Type 0 where
    pub row : Says shelf (get shelves S) s
    pub holds : Holds I s
    pub listed : FreeListed s

  said : Each Said a.shelves
  said =
      each_map (λ s. Says shelf (get shelves S) s × (Holds I s × FreeListed s)) Said (λ s q. record { row = q.0; holds = q.1.0; listed = q.1.1 }) a.shelves
      (each_both (Says shelf (get shelves S)) (λ s. Holds I s × FreeListed s) a.shelves (chain_says shelf (get shelves S) no_row a.shelves l.shelf_chain)
      (each_both (Holds I) FreeListed a.shelves l.shelf_items k.sound.free_listed))

  module _ (s : Shelf) (w : Said s) (b : (r : ℕ) → r ∈ item_rows_of s.items → r < a.rows.items.used) where
    items_are : map (item_in_of I) (items_met (header_of a) S I s.row) ≡ s.items
    unfolding header_of items_met
    items_are =
        ap (λ (v : ShelfRow). map (item_in_of I) (rows_from (item_next I) a.rows.items.used v.first_item.0)) w.row.2
        ∙ ap (map (item_in_of I))
        (chain_met (item s.row) (λ r. body_of (get items I r)) (item_next I) a.rows.items.used (item_names (header_of a) I s.row) few_items no_row s.items b w.holds.in_order)
        ∙ read_all (λ (i : Item). i.row) (item_in_of I) s.items (chain_each (item s.row) (λ r. body_of (get items I r)) _ (item_read I s.row) no_row s.items w.holds.in_order)

    free_are : free_met (header_of a) S I s.row ≡ s.free
    unfolding header_of free_met
    free_are =
        ap (λ (v : ShelfRow). rows_from (free_next I) a.rows.items.used v.first_unallocated.0) w.row.2
        ∙ chain_met free (λ r. links_of (get items I r)) (free_next I) a.rows.items.used (free_names I) few_items no_row s.free
        (λ r m. b r (free_row s.items r (w.listed.only r (rw self at m)))) w.holds.free_order
        ∙ self s.free

    shelf_read : shelf_in (header_of a) S I s.row ≡ s
    unfolding shelf_in
    shelf_read = λ z. record {
      row = s.row;
      x = ap (λ (v : ShelfRow). v.x) w.row.2 z;
      y = ap (λ (v : ShelfRow). v.y) w.row.2 z;
      depth = ap (λ (v : ShelfRow). v.height) w.row.2 z;
      items = items_are z;
      free = free_are z;
    }

  shelves_are : map (shelf_in (header_of a) S I) (shelves_met (header_of a) S) ≡ a.shelves
  unfolding header_of shelves_met
  shelves_are =
      ap (λ (r : ℕ). map (shelf_in (header_of a) S I) (rows_from (shelf_next S) a.rows.shelves.used r)) (sym k.shaped.first)
      ∙ ap (map (shelf_in (header_of a) S I))
      (chain_met shelf (get shelves S) (shelf_next S) a.rows.shelves.used (shelf_names (header_of a) S I) few_shelves no_row a.shelves
      k.sound.shelf_rows.serving_used l.shelf_chain)
      ∙ read_all (λ (s : Shelf). s.row) (shelf_in (header_of a) S I) a.shelves
      (each_frame (λ (s : Shelf). item_rows_of s.items) Said _ a.shelves (λ s m w. shelf_read s w (λ r q. k.sound.item_rows.serving_used r (m r q))) said)

  freed_shelves_are : freed_shelves_met (header_of a) S ≡ a.rows.shelves.freed
  unfolding header_of freed_shelves_met
  freed_shelves_are =
      chain_met freed_shelf (get shelves S) (shelf_next S) a.rows.shelves.used (λ r p n. freed_shelf-next S r n) few_shelves no_row a.rows.shelves.freed
      (λ r m. ((k.sound.shelf_rows.freed_exactly r).0 (rw self at m)).0) l.freed_shelves_lem
      ∙ self a.rows.shelves.freed

  freed_items_are : map (freed_in I) (freed_items_met (header_of a) I) ≡ a.rows.items.freed
  unfolding header_of freed_items_met
  freed_items_are =
      ap (map (freed_in I))
      (chain_met freed_item_of (get items I) (item_next I) a.rows.items.used (λ f p n. freed_item-next I f.row n f.generation) few_items no_row a.rows.items.freed
      (λ r m. ((k.sound.item_rows.freed_exactly r).0 m).0) l.freed_items_lem)
      ∙ read_all (λ (f : Freed). f.row) (freed_in I) a.rows.items.freed (chain_each freed_item_of (get items I) _ (freed_read I) no_row a.rows.items.freed l.freed_items_lem)

  atlas_is : a ≡ atlas_in (header_of a) S I
  unfolding header_of atlas_in
  atlas_is = λ z. record {
    limits = a.limits;
    shelves = sym shelves_are z;
    rows = record {
      shelves = record { used = a.rows.shelves.used; freed = sym freed_shelves_are z };
      items = record { used = a.rows.items.used; freed = sym freed_items_are z };
    };
  }

pub unique : (h : Header) (S I : List ℕ) (a : Atlas) → Stores h S I a → WellFormed (room_in S I) a → a ≡ atlas_in h S I
unique h S I a l k = rw l.header (atlas_is S I a (rw l.header at l) k)
