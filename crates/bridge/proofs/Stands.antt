-- What it is for an atlas to stand in a state, that is a header and two tables: it is stored there, and each row in use serves once. With it, what
-- a step may rely on: the rows in use are there, none is the index that names no row, and a shelf's row says what the shelf is. Assumes nothing.
use Rattle.std.specs.Prelude.{◌<◌, ◌≤◌, ◌≡◌, ◌≢◌, ◌⊎◌, ◌∷◌}
use Rattle.numbers.specs.Library.{ℕ, refl, ap, inl, inr, true, List, [], List·Memᴰ·head, arith, ltb, lt-ltb}
use Rattle.numbers.specs.declared.index.ShelfIndex.{ShelfIndex}
use Rattle.numbers.specs.Prelude.{no_row}
use Rattle.chains.specs.Prelude.{◌∈◌, Each, back_onto, first_row}
use Rattle.chains.proofs.Prelude.{chain_split, each_split}
use Rattle.rows.specs.Prelude.{rows, get, rows_few, items, shelves}
use Rattle.rows.specs.declared.header.Header.{Header}
use Rattle.rules.specs.Prelude.{Shelf, Atlas, shelf, Holds, Stores, header_of, room_in, shelf_rows_of, all_item_rows, FreeListed, Sound}
use Rattle.rows.specs.State.{State}

pub record Stands (st : State) (a : Atlas) : Type 0 where
  pub stored : Stores st.header st.shelves st.items a
  pub sound : Sound (room_in st.shelves st.items) a

-- What stands in a table of items of the shelves before one, of itself and of those after it: their items, and their free lists.
pub record Around (I : List ℕ) (bs : List Shelf) (s : Shelf) (ys : List Shelf) : Type 0 where
  pub held_before : Each (Holds I) bs
  pub held_here : Holds I s
  pub held_after : Each (Holds I) ys
  pub listed_before : Each FreeListed bs
  pub listed_here : FreeListed s
  pub listed_after : Each FreeListed ys

-- a row number as the index of a shelf
abbrev pub on_row : ℕ → ShelfIndex
on_row r = record { 0 = r }

module _ (st : State) (a : Atlas) (stands : Stands st a) where
  -- ---- the rows that it uses are there

  pub used_items_lem : a.rows.items.used ≤ rows items st.items
  unfolding room_in
  used_items_lem = stands.sound.in_room.items

  pub used_shelves_lem : a.rows.shelves.used ≤ rows shelves st.shelves
  unfolding room_in
  used_shelves_lem = stands.sound.in_room.shelves

  pub shelf_some : (r : ℕ) → r < a.rows.shelves.used → r ≢ no_row
  shelf_some r b = omega (arith, used_shelves_lem, rows_few shelves st.shelves)

  pub shelf_there : (r : ℕ) → r ∈ shelf_rows_of a.shelves → ltb r (rows shelves st.shelves) ≡ true
  shelf_there r m = lt-ltb r (rows shelves st.shelves) (omega (arith, stands.sound.shelf_rows.serving_used r m, used_shelves_lem))

  pub item_there : (r : ℕ) → r ∈ all_item_rows a.shelves → ltb r (rows items st.items) ≡ true
  item_there r m = lt-ltb r (rows items st.items) (omega (arith, stands.sound.item_rows.serving_used r m, used_items_lem))

  -- ---- what the header and the row of a shelf say

  pub shelf_says : (bs : List Shelf) (s : Shelf) (ys : List Shelf) → a.shelves ≡ back_onto bs (s ∷ ys)
      → get shelves st.shelves s.row ≡ shelf.says (first_row shelf.row bs) s (first_row shelf.row ys)
  shelf_says bs s ys are = (chain_split shelf (get shelves st.shelves) bs (s ∷ ys) (rw are at stands.stored.shelf_chain)).1.0

  pub around : (bs : List Shelf) (s : Shelf) (ys : List Shelf) → a.shelves ≡ back_onto bs (s ∷ ys) → Around st.items bs s ys
  around bs s ys are =
      let held : Each (Holds st.items) bs × Each (Holds st.items) (s ∷ ys) = each_split (Holds st.items) bs (s ∷ ys) (rw are at stands.stored.shelf_items) in
      let listed : Each FreeListed bs × Each FreeListed (s ∷ ys) = each_split FreeListed bs (s ∷ ys) (rw are at stands.sound.free_listed) in
      record {
        held_before = held.0;
        held_here = held.1.0;
        held_after = held.1.1;
        listed_before = listed.0;
        listed_here = listed.1.0;
        listed_after = listed.1.1;
      }

  pub shelf_width-is : st.header.limits.shelf_width ≡ a.limits.shelf_width
  unfolding header_of
  shelf_width-is = ap (λ (q : Header). q.limits.shelf_width) stands.stored.header

-- the first of some shelves is in one of their rows, or in none
pub first_used : (used : ℕ) (ys : List Shelf) → ((r : ℕ) → r ∈ shelf_rows_of ys → r < used) → (first_row shelf.row ys < used) ⊎ (first_row shelf.row ys ≡ no_row)
first_used used [] h = inr refl
first_used used (y ∷ ys) h = inl (h y.row (List·Memᴰ·head refl))
