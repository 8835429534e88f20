-- An edit of the item table writes the row that it is given and rows that links lead to, and writes links that it has read. So a table whose links lead
-- to the first n rows only, or to none, stays such a one. Assumes nothing.
use Rattle.std.specs.Prelude.{◌<◌}
use Rattle.numbers.specs.Library.{ℕ, refl, inl, inr, List}
use Rattle.numbers.specs.Prelude.{no_item}
use Rattle.numbers.specs.declared.index.ItemIndex.{ItemIndex}
use Rattle.rows.specs.Prelude.{get, items, Below, Linked, LinksWithin, linked-at, within-put, within-change, with_width, with_item_x, with_item_prev, with_item_next}
use Rattle.rows.specs.Prelude.{with_prev_free, with_next_free, with_allocated, with_generation}
use Rattle.pool.specs.Pool.{freed_item_row, remove_item}
use Rattle.rows.specs.declared.{header.Header.Header, item.ItemRow.ItemRow}
use Rattle.item_edits.specs.ItemEdits.{with_links, with_span, mark_live, mark_free, rest_of, unlist_row, unlist, relist, enlist, join_next}

-- ---- what the edits write into a row

module _ (n : ℕ) where
  linked_prev_free : (x : ItemIndex) → Below n x.0 → (v : ItemRow) → Linked n v → Linked n (with_prev_free x v)
  unfolding with_prev_free
  linked_prev_free x b v l = record { prev = l.prev; next = l.next; prev_free = b; next_free = l.next_free }

  linked_next_free : (x : ItemIndex) → Below n x.0 → (v : ItemRow) → Linked n v → Linked n (with_next_free x v)
  unfolding with_next_free
  linked_next_free x b v l = record { prev = l.prev; next = l.next; prev_free = l.prev_free; next_free = b }

  linked-links : (x y : ItemIndex) → Below n x.0 → Below n y.0 → (v : ItemRow) → Linked n v → Linked n (with_links x y v)
  unfolding with_links
  linked-links x y b c v l = linked_prev_free x b (with_next_free y v) (linked_next_free y c v l)

  pub linked-prev : (x : ItemIndex) → Below n x.0 → (v : ItemRow) → Linked n v → Linked n (with_item_prev x v)
  unfolding with_item_prev
  linked-prev x b v l = record { prev = b; next = l.next; prev_free = l.prev_free; next_free = l.next_free }

  pub linked_span : (width : ℕ) (x : ItemIndex) → Below n x.0 → (v : ItemRow) → Linked n v → Linked n (with_span width x v)
  unfolding with_span with_width with_item_next
  linked_span width x b v l = record { prev = l.prev; next = b; prev_free = l.prev_free; next_free = l.next_free }

  pub linked-live : (v : ItemRow) → Linked n v → Linked n (mark_live v)
  unfolding mark_live with_allocated with_links with_prev_free with_next_free
  linked-live v l = record { prev = l.prev; next = l.next; prev_free = inr refl; next_free = inr refl }

  pub linked_mark : (v : ItemRow) → Linked n v → Linked n (mark_free v)
  unfolding mark_free with_allocated
  linked_mark v l = record { prev = l.prev; next = l.next; prev_free = l.prev_free; next_free = l.next_free }

  -- the rest of an item that is split
  pub linked-rest : (v : ItemRow) (at : ItemIndex) (width generation : ℕ) → Below n at.0 → Linked n v → Linked n (with_generation generation (rest_of v at width))
  unfolding rest_of with_item_x with_width with_item_prev with_allocated with_generation
  linked-rest v at width generation b l = record { prev = b; next = l.next; prev_free = l.prev_free; next_free = l.next_free }

  -- a freed row
  linked_freed : 0 < n → (x : ItemIndex) (generation : ℕ) → Below n x.0 → Linked n (freed_item_row x generation)
  unfolding freed_item_row with_item_next with_generation
  linked_freed some x generation b = record { prev = inl some; next = b; prev_free = inl some; next_free = inl some }

-- ---- the edits: each writes rows that it reaches along links, and writes links that it has read

module _ {n : ℕ} {I₀ I : List ℕ} (w : LinksWithin n I₀ I) where
  pub within-unlist_row : (v : ItemRow) → Linked n v → LinksWithin n I₀ (unlist_row I v)
  unfolding unlist_row
  within-unlist_row v l = within-change (within-change w _ _ l.prev_free (linked_next_free n _ l.next_free)) _ _ l.next_free (linked_prev_free n _ l.prev_free)

  pub within-unlist : (at : ItemIndex) → Below n at.0 → LinksWithin n I₀ (unlist I at)
  unfolding unlist
  within-unlist at b = within-unlist_row (get items I at.0) (linked-at w at.0 b)

  pub within-relist : (v : ItemRow) (new : ItemIndex) → Linked n v → Below n new.0 → LinksWithin n I₀ (relist I v new)
  unfolding relist
  within-relist v new l c = within-change (within-change w _ _ l.prev_free (linked_next_free n new c)) _ _ l.next_free (linked_prev_free n new c)

  pub within-enlist : (first at : ItemIndex) → Below n first.0 → Below n at.0 → LinksWithin n I₀ (enlist I first at)
  unfolding enlist
  within-enlist first at b c = within-change (within-change w _ _ b (linked_prev_free n at c)) _ _ c (linked-links n no_item first (inr refl) b)

  pub within_remove : (h : Header) (at : ItemIndex) → Below n h.free_items.0 → Below n at.0 → LinksWithin n I₀ (remove_item I h at)
  unfolding remove_item
  within_remove h at b c = within-put w at.0 _ c (linked_freed n w.some h.free_items _ b)

pub within_join : {n : ℕ} {I₀ I : List ℕ} (w : LinksWithin n I₀ I) (h : Header) (at : ItemIndex) → Below n h.free_items.0 → Below n at.0 → LinksWithin n I₀ (join_next h I at)
unfolding join_next
within_join {n} {I₀} {I} w h at b c =
    let i : Linked n (get items I at.0) = linked-at w at.0 c in
    let k : Linked n (get items I (get items I at.0).next.0) = linked-at w _ i.next in
    within_remove (within-change (within-change w _ _ c (linked_span n _ _ k.next)) _ _ k.next (linked-prev n at c)) h _ b i.next
