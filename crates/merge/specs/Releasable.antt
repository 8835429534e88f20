-- What a release asks of header and tables, so that no step of it has to test whether a row is there. Tables that pass the audit have it for each live
-- item (`releasable` in bridge/proofs/Release). Assumes nothing.
use Rattle.std.specs.Prelude.{◌<◌, ◌≡◌}
use Rattle.numbers.specs.Library.{ℕ, refl, inl, List}
use Rattle.numbers.specs.declared.{index.ItemIndex.ItemIndex, index.ShelfIndex.ShelfIndex}
use Rattle.rows.specs.Prelude.{with_occupied, item_capacity, item_at, shelf_capacity, shelf_at_of, Below, LinksWithin, below_there}
use Rattle.rows.specs.declared.header.Header.{Header}
use Rattle.rows.specs.State.{state}
use Rattle.merge_items.specs.LooseIn.{Loosens, LooseIn, loosen_in}
use Rattle.merge.specs.Merge.{with_area_removed, loosened}

pub record Releasable (h : Header) (S I : List ℕ) (at : ItemIndex) : Type 0 where
  -- the used item rows link among themselves, and the freed ones start with one of them, or there is none
  pub links : LinksWithin h.used_items I I
  pub freed : Below h.used_items h.free_items.0
  -- the row is used, and its shelf is there
  pub used : at.0 < h.used_items
  pub on_shelf : (item_at I at).shelf.0 < shelf_capacity S
  -- the shelf's free list and its items start with used rows
  pub first_free : Below h.used_items (shelf_at_of S (item_at I at).shelf).first_unallocated.0
  pub first_item : Below h.used_items (shelf_at_of S (item_at I at).shelf).first_item.0

module _ {h : Header} {S I : List ℕ} {on : ShelfIndex} {at : ItemIndex} (may : Releasable h S I at) (shelf : on ≡ (item_at I at).shelf) where
  pub shelf_there : on.0 < shelf_capacity S
  shelf_there = rw shelf may.on_shelf

  -- as much as is asked to loosen the item, whatever is occupied
  pub loosens : (area : ℕ) → Loosens (with_area_removed h area) (shelf_at_of S on).first_unallocated I at
  unfolding with_area_removed with_occupied
  loosens area = record { used = refl; table = may.links; head = may.freed; first = rw shelf may.first_free; here = inl may.used }

  -- the used rows still link among themselves once it is loosened, and the shelf's first item is one of them
  pub loosened_in : LooseIn h.used_items I (loosened (state h S I) on at) at
  unfolding loosened with_area_removed with_occupied
  loosened_in = loosen_in (loosens _)

  pub front_there : Below (item_capacity (loosened (state h S I) on at).items) (shelf_at_of S on).first_item.0
  front_there = below_there loosened_in.table _ (rw shelf may.first_item)
