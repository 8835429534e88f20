-- The changes of an item table from which every grant and release is made. Each reads the rows that it needs, and changes what it names;
-- where there is no such row, zeros are read and nothing is written. Assumes nothing.
use Rattle.std.specs.Prelude.{◌≡◌}
use Rattle.numbers.specs.Library.{ℕ, refl, ◌∙◌, List, eqb}
use Rattle.numbers.specs.Prelude.{pick, no_item}
use Rattle.numbers.specs.declared.{index.ItemIndex.ItemIndex, index.ShelfIndex.ShelfIndex}
use Rattle.rows.specs.Prelude.{rows, rows-put, rows-change, unseen, items, zero_item, item_at, change_item, with_item_x, with_width, with_item_prev, with_item_next}
use Rattle.rows.specs.Prelude.{with_prev_free, with_next_free, with_shelf, with_allocated}
use Rattle.pool.specs.Pool.{new_item, add_item, remove_item}
use Rattle.rows.specs.declared.{header.Header.Header, item.ItemRow.ItemRow}
use Rattle.wrap.specs.Wrap.{plus16, minus16}

-- ---- an item row changed

-- both free links
unfoldable pub with_links : ItemIndex → ItemIndex → ItemRow → ItemRow
with_links prev next v = with_prev_free prev (with_next_free next v)

-- width and next
unfoldable pub with_span : ℕ → ItemIndex → ItemRow → ItemRow
with_span width next v = with_width width (with_item_next next v)

-- a live item is on no free list
unfoldable pub mark_live : ItemRow → ItemRow
mark_live v = with_allocated 1 (with_links no_item no_item v)

unfoldable pub mark_free : ItemRow → ItemRow
mark_free v = with_allocated 0 v

-- a free item that has its shelf to itself
unfoldable pub lone_item : ℕ → ℕ → ShelfIndex → ItemRow
lone_item x width shelf = with_item_x x (with_span width no_item (with_item_prev no_item (with_links no_item no_item (with_shelf shelf zero_item))))

-- ---- a shelf's free list: a row taken out, another put in its place, one put in front

-- a row with these links taken out: its neighbours link to each other
unfoldable pub unlist_row : List ℕ → ItemRow → List ℕ
unlist_row I i =
    change_item (change_item I i.prev_unallocated (with_next_free i.next_unallocated)) i.next_unallocated (with_prev_free i.prev_unallocated)

unfoldable pub unlist : List ℕ → ItemIndex → List ℕ
unfolding unlist_row
unlist I at = unlist_row I (item_at I at)

-- row `new` has these links: its neighbours link to it
unfoldable pub relist : List ℕ → ItemRow → ItemIndex → List ℕ
relist I i new = change_item (change_item I i.prev_unallocated (with_next_free new)) i.next_unallocated (with_prev_free new)

-- `first` is the row that is in front so far
unfoldable pub enlist : List ℕ → ItemIndex → ItemIndex → List ℕ
enlist I first at = change_item (change_item I first (with_prev_free at)) at (with_links no_item first)

-- the first row of a free list once another, or what follows it, is in the place of row `at`
unfoldable pub first_after : ItemIndex → ItemIndex → ItemIndex → ItemIndex
first_after first at new = pick (eqb first.0 at.0) new first

-- ---- an item in two: its row keeps `width`, and the rest, free, is in a new row

-- what is left of item i, which lies in row `at`; it keeps the item's links in the free list
unfoldable pub rest_of : ItemRow → ItemIndex → ℕ → ItemRow
rest_of i at width = with_item_x (plus16 i.x width) (with_width (minus16 i.width width) (with_item_prev at (with_allocated 0 i)))

unfoldable pub split_item : Header → List ℕ → ItemIndex → ItemRow → ℕ → List ℕ
split_item h I at i width =
    change_item (change_item (add_item I h (rest_of i at width)) at (with_span width (new_item h))) i.next (with_item_prev (new_item h))

-- ---- the next item merged into this one, and its row freed

unfoldable pub join_next : Header → List ℕ → ItemIndex → List ℕ
join_next h I at =
    let i : ItemRow = item_at I at in
    let n : ItemRow = item_at I i.next in
    remove_item (change_item (change_item I at (with_span (plus16 i.width n.width) n.next)) n.next (with_item_prev at)) h i.next

-- a row taken out of its free list leaves each row's next as it was
pub next_unlist : (I : List ℕ) (gone at : ItemIndex) → (item_at (unlist I gone) at).next ≡ (item_at I at).next
unfolding unlist unlist_row with_prev_free with_next_free
next_unlist I gone at =
    let view : ItemRow → ItemIndex = λ v. v.next in
    unseen items view (with_prev_free _) (λ v. refl) _ _ at.0 ∙ unseen items view (with_next_free _) (λ v. refl) I _ at.0

-- ---- no edit changes how many rows a table has

pub rows-unlist_row : (I : List ℕ) (i : ItemRow) → rows items (unlist_row I i) ≡ rows items I
unfolding unlist_row
rows-unlist_row I i = simp rows-change

pub rows-relist : (I : List ℕ) (i : ItemRow) (new : ItemIndex) → rows items (relist I i new) ≡ rows items I
unfolding relist
rows-relist I i new = simp rows-change

pub rows-split_item : (h : Header) (I : List ℕ) (at : ItemIndex) (i : ItemRow) (width : ℕ) → rows items (split_item h I at i width) ≡ rows items I
unfolding split_item add_item
rows-split_item h I at i width = simp (rows-change, rows-put)
