-- The two rows that a shelf split takes, a shelf row and then an item row: they are the rows that the rules take, they serve nowhere yet, and the
-- header that is left holds the two pools that are left. Assumes nothing.
use Rattle.std.specs.Prelude.{◌<◌, ◌≡◌}
use Rattle.numbers.specs.Library.{ℕ, ap, ◌∙◌}
use Rattle.chains.specs.Prelude.{first_row, first_of}
use Rattle.rows.specs.Prelude.{rows, put, items, with_generation, shelves, with_used_shelves, with_free_shelves}
use Rattle.pool.specs.Pool.{new_item, add_item, new_shelf, shelf_taken, item_taken}
use Rattle.rows.specs.declared.{header.Header.Header, item.ItemRow.ItemRow}
use Rattle.rules.specs.Prelude.{Freed, Pool, Atlas, new_row, new_generation, taken, rows_left_of, header_of, shelf_rows_of, all_item_rows}
use Rattle.rows.specs.State.{State}
use Rattle.bridge.proofs.Stands.{Stands, on_row, used_shelves_lem, used_items_lem}
use Rattle.bridge.proofs.Items.PoolRows.{shelf_row_of, freed_row, with_pool, Fresh, fresh, item_new, item_generation, item_header, shelf_fresh, shelf_new}
use Rattle.bridge.proofs.Items.PoolRows.{shelf_header}

-- the header with the used rows and the head of a pool of shelf rows
abbrev pub with_shelf_pool : Pool ℕ → Header → Header
with_shelf_pool p h = with_used_shelves p.used (with_free_shelves (on_row (first_of p.freed)) h)

module _ (st : State) (a : Atlas) (stands : Stands st a)
    (shelf-left : 0 < rows_left_of (rows shelves st.shelves) a.rows.shelves) (item-left : 0 < rows_left_of (rows items st.items) a.rows.items) where
  abbrev h : Header
  h = st.header

  abbrev shelf_pool : Pool ℕ
  shelf_pool = a.rows.shelves

  abbrev item_pool : Pool Freed
  item_pool = a.rows.items

  -- ---- what the header says of the pools

  shelf_head : h.free_shelves.0 ≡ first_of shelf_pool.freed
  unfolding header_of
  shelf_head = ap (λ (q : Header). q.free_shelves.0) stands.stored.header

  shelf_used : h.used_shelves ≡ shelf_pool.used
  unfolding header_of
  shelf_used = ap (λ (q : Header). q.used_shelves) stands.stored.header

  item_head : h.free_items.0 ≡ first_row freed_row item_pool.freed
  unfolding header_of
  item_head = ap (λ (q : Header). q.free_items.0) stands.stored.header

  item_used : h.used_items ≡ item_pool.used
  unfolding header_of
  item_used = ap (λ (q : Header). q.used_items) stands.stored.header

  -- ---- the rows, and the header once the shelf row is taken

  pub shelf_is_fresh : Fresh shelf_row_of (rows shelves st.shelves) (shelf_rows_of a.shelves) shelf_pool
  shelf_is_fresh = shelf_fresh _ _ shelf_pool (used_shelves_lem st a stands) shelf-left stands.sound.shelf_rows

  pub item_is_fresh : Fresh freed_row (rows items st.items) (all_item_rows a.shelves) item_pool
  item_is_fresh = fresh freed_row _ _ item_pool (used_items_lem st a stands) item-left stands.sound.item_rows

  pub new_shelf_lem : new_shelf h ≡ on_row (new_row shelf_row_of shelf_pool)
  new_shelf_lem = shelf_new st.shelves h (shelf_rows_of a.shelves) shelf_pool shelf_head shelf_used (used_shelves_lem st a stands) shelf-left stands.sound.shelf_rows stands.stored.freed_shelves_lem

  pub new_item_lem : new_item h ≡ record { 0 = new_row freed_row item_pool }
  new_item_lem = item_new st.items h (all_item_rows a.shelves) item_pool item_head item_used (used_items_lem st a stands) item-left stands.sound.item_rows stands.stored.freed_items_lem

  one_taken : shelf_taken st.shelves h ≡ with_shelf_pool (taken shelf_pool) h
  one_taken = shelf_header st.shelves h (shelf_rows_of a.shelves) shelf_pool shelf_head shelf_used (used_shelves_lem st a stands) shelf-left stands.sound.shelf_rows stands.stored.freed_shelves_lem

  -- ---- the item row taken then

  pub both_taken : item_taken st.items (shelf_taken st.shelves h) ≡ with_pool (taken item_pool) (with_shelf_pool (taken shelf_pool) h)
  unfolding with_used_shelves with_free_shelves
  both_taken =
      ap (item_taken st.items) one_taken
      ∙ item_header st.items (with_shelf_pool (taken shelf_pool) h) (all_item_rows a.shelves) item_pool item_head item_used (used_items_lem st a stands) item-left stands.sound.item_rows stands.stored.freed_items_lem

  pub item_added : (v : ItemRow) → add_item st.items (shelf_taken st.shelves h) v ≡ put items st.items (new_row freed_row item_pool) (with_generation (new_generation item_pool) v)
  unfolding add_item with_used_shelves with_free_shelves
  item_added v =
      ap (λ (q : Header). add_item st.items q v) one_taken
      ∙ rw (
        item_new st.items (with_shelf_pool (taken shelf_pool) h) (all_item_rows a.shelves) item_pool item_head item_used (used_items_lem st a stands) item-left stands.sound.item_rows stands.stored.freed_items_lem,
        item_generation st.items (with_shelf_pool (taken shelf_pool) h) (all_item_rows a.shelves) item_pool item_head item_used (used_items_lem st a stands) item-left stands.sound.item_rows stands.stored.freed_items_lem,
      )
