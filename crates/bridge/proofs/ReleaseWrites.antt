-- Which rows a release writes before shelves are merged: item rows in use, and one shelf row. So all past them stays as it was. Assumes nothing.
use Rattle.std.specs.Prelude.{◌<◌, ◌≡◌}
use Rattle.numbers.specs.Library.{ℕ, inl}
use Rattle.numbers.specs.declared.{index.ItemIndex.ItemIndex, index.ShelfIndex.ShelfIndex}
use Rattle.rows.specs.Prelude.{Past, past_same, past_change, items, shelves, item_at}
use Rattle.rows.specs.State.{State}
use Rattle.merge.specs.Merge.{release_item}
use Rattle.merge.specs.Releasable.{Releasable, loosened_in}

module _ (st : State) (on : ShelfIndex) (at : ItemIndex) where
  pub released_items : Releasable st.header st.shelves st.items at → on ≡ (item_at st.items at).shelf
      → Past items st.header.used_items st.items (release_item st on at).items
  unfolding release_item
  released_items may shelf = (loosened_in may shelf).table.past

  pub released_shelves : (n : ℕ) → on.0 < n → Past shelves n st.shelves (release_item st on at).shelves
  unfolding release_item
  released_shelves n b = past_change shelves n (past_same shelves n st.shelves) on.0 _ (inl b)
