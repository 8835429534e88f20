-- What taking a row and giving one back come to: which row it is, what it holds, and that all else stays. Assumes nothing.
use Rattle.std.specs.Prelude.{◌≡◌, ◌≢◌, ◌∷◌, ◌+◌, ◌<◌}
use Rattle.numbers.specs.Library.{refl, sym, ap, ◌∙◌, List, [], map, ℕ, ℕ_discrete, arith, length, eqb, eqb-true, eq-eqb, ne_eqb}
use Rattle.std.proofs.Common.{mod-eq_of_lt}
use Rattle.numbers.specs.Prelude.{Decides, no_row, most_rows}
use Rattle.numbers.specs.declared.{index.ItemIndex.ItemIndex, index.ShelfIndex.ShelfIndex}
use Rattle.rows.specs.declared.{header.Header.Header, item.ItemRow.ItemRow, shelf.ShelfRow.ShelfRow}
use Rattle.rows.specs.Prelude.{Shape, rows, rest, get, put, rows_few, length-put, rows-put, rest_put, get-put_same, get-put_other, put-put, with_used_items}
use Rattle.rows.specs.Prelude.{with_used_shelves, with_free_items, with_free_shelves, items, item_of, item_capacity, item_at, put_item, with_item_next, with_generation}
use Rattle.rows.specs.Prelude.{shelves, shelf_of, shelf_capacity, shelf_at_of, put_shelf, with_shelf_next}
use Rattle.rows.specs.Item.{numbers_of as item_numbers}
use Rattle.rows.specs.Shelf.{numbers_of as shelf_numbers}
use Rattle.pool.specs.Pool.{one_more_of, new_row, head_after, used_after, new_item, new_generation, add_item, item_taken, added_item, freed_item_row, FreedItem}
use Rattle.pool.specs.Pool.{remove_item, item_freed, new_shelf, add_shelf, shelf_taken, added_shelf, freed_shelf_row, FreedShelf, remove_shelf, remove_shelf_item}

pub one_more : (n : ℕ) → n < 65535 → one_more_of n ≡ n + 1
unfolding one_more_of
one_more n h = mod-eq_of_lt (omega arith)

pub one_more-last : one_more_of 65535 ≡ 0
unfolding one_more_of
one_more-last = refl

-- ---- which row

module _ (head used next : ℕ) where
  -- where a row has been freed, the latest goes first, and the one freed before it is the latest now
  pub new_freed : head ≢ no_row → (new_row head used ≡ head) × (head_after head next ≡ next) × (used_after head used ≡ used)
  unfolding new_row head_after used_after
  new_freed n = let e = ne_eqb head no_row n in (rw e, rw e, rw e)

  -- else the next unused one
  pub new_unused : head ≡ no_row → (new_row head used ≡ used) × (head_after head next ≡ head) × (used_after head used ≡ one_more_of used)
  unfolding new_row head_after used_after
  new_unused n = let e = eq-eqb head no_row n in (rw e, rw e, rw e)

-- the row is a used one then, where the head is a used row or none and there is an unused row to take
pub new_used : (head used : ℕ) → (head ≢ no_row → head < used) → used < most_rows → new_row head used < used_after head used
new_used head used named few = go (ℕ_discrete head no_row) where
  go : Dec (head ≡ no_row) → new_row head used < used_after head used
  go (yes e) = omega (arith, new_unused head used 0 e, one_more used few)
  go (no n) = omega (arith, new_freed head used 0 n, named n)

module _ (l : List ℕ) (h : Header) where
  pub item_freed_lem : h.free_items.0 ≢ no_row
      → (added_item l h ≡ record { idx = h.free_items; header = with_free_items (item_at l h.free_items).next h })
      × ((v : ItemRow) → add_item l h v ≡ put_item l h.free_items (with_generation (one_more_of (item_at l h.free_items).generation) v))
  unfolding added_item add_item new_item new_generation item_taken new_row head_after used_after with_used_items with_free_items
  item_freed_lem n = let e = ne_eqb h.free_items.0 no_row n in (rw e, λ v. rw e)

  pub item_unused : h.free_items.0 ≡ no_row
      → (added_item l h ≡ record { idx = record { 0 = h.used_items }; header = with_used_items (one_more_of h.used_items) h })
      × ((v : ItemRow) → add_item l h v ≡ put_item l (record { 0 = h.used_items }) (with_generation 1 v))
  unfolding added_item add_item new_item new_generation item_taken new_row head_after used_after with_used_items with_free_items
  item_unused n = let e = eq-eqb h.free_items.0 no_row n in (rw e, λ v. rw e)

  pub shelf_freed_lem : h.free_shelves.0 ≢ no_row
      → (added_shelf l h ≡ record { idx = h.free_shelves; header = with_free_shelves (shelf_at_of l h.free_shelves).next h })
      × ((v : ShelfRow) → add_shelf l h v ≡ put_shelf l h.free_shelves v)
  unfolding added_shelf add_shelf new_shelf shelf_taken new_row head_after used_after with_used_shelves with_free_shelves
  shelf_freed_lem n = let e = ne_eqb h.free_shelves.0 no_row n in (rw e, λ v. rw e)

  pub shelf_unused : h.free_shelves.0 ≡ no_row
      → (added_shelf l h ≡ record { idx = record { 0 = h.used_shelves }; header = with_used_shelves (one_more_of h.used_shelves) h })
      × ((v : ShelfRow) → add_shelf l h v ≡ put_shelf l (record { 0 = h.used_shelves }) v)
  unfolding added_shelf add_shelf new_shelf shelf_taken new_row head_after used_after with_used_shelves with_free_shelves
  shelf_unused n = let e = eq-eqb h.free_shelves.0 no_row n in (rw e, λ v. rw e)

-- ---- all else stays

-- table t is l with one row, i, that now holds v: every other row stays, and so does what is left after the last row
pub record OneRow {A : Type 0} (s : Shape A) (l t : List ℕ) (i : ℕ) (v : A) : Type 0 where
  pub as_long : length t ≡ length l
  pub as_many : rows s t ≡ rows s l
  pub rest_kept : rest s t ≡ rest s l
  pub others_kept : (j : ℕ) → j ≢ i → get s t j ≡ get s l j
  pub there : i < rows s l → get s t i ≡ v

pub one_row : {A : Type 0} (s : Shape A) (l : List ℕ) (i : ℕ) (v : A) → OneRow s l (put s l i v) i v
one_row s l i v = record {
  as_long = length-put s l i v;
  as_many = rows-put s l i v;
  rest_kept = rest_put s l i v;
  others_kept = λ j n. get-put_other s l i j v n;
  there = get-put_same s l i v;
}

module _ (l : List ℕ) (h : Header) where
  pub add_item-row : (v : ItemRow) → OneRow items l (add_item l h v) (new_item h).0 (with_generation (new_generation l h) v)
  unfolding add_item
  add_item-row v = one_row items l _ _

  pub remove_item-row : (idx : ItemIndex) → OneRow items l (remove_item l h idx) idx.0 (freed_item_row h.free_items (item_at l idx).generation)
  unfolding remove_item
  remove_item-row idx = one_row items l _ _

  pub add_shelf-row : (v : ShelfRow) → OneRow shelves l (add_shelf l h v) (new_shelf h).0 v
  unfolding add_shelf
  add_shelf-row v = one_row shelves l _ _

  pub remove_shelf-row : (idx : ShelfIndex) → OneRow shelves l (remove_shelf l h idx) idx.0 (freed_shelf_row h.free_shelves)
  unfolding remove_shelf
  remove_shelf-row idx = one_row shelves l _ _

  pub length-add_item : (v : ItemRow) → length (add_item l h v) ≡ length l
  length-add_item v = (add_item-row v).as_long

  pub length-remove_item : (idx : ItemIndex) → length (remove_item l h idx) ≡ length l
  length-remove_item idx = (remove_item-row idx).as_long

  pub length-add_shelf : (v : ShelfRow) → length (add_shelf l h v) ≡ length l
  length-add_shelf v = (add_shelf-row v).as_long

  pub length-remove_shelf : (idx : ShelfIndex) → length (remove_shelf l h idx) ≡ length l
  length-remove_shelf idx = (remove_shelf-row idx).as_long

  pub length-remove_shelf_item : (us : List ℕ) (idx : ShelfIndex) → length (remove_shelf_item us l h idx) ≡ length l
  unfolding remove_shelf_item
  length-remove_shelf_item us idx = length-remove_item _

-- ---- a row that was freed last is taken first; the header is then as it was, and an item's generation is one more

pub item_again : (l : List ℕ) (h : Header) (idx : ItemIndex) → idx.0 < item_capacity l
    → (added_item (remove_item l h idx) (item_freed h idx) ≡ record { idx = idx; header = h })
    × ((v : ItemRow) → add_item (remove_item l h idx) (item_freed h idx) v ≡ put_item l idx (with_generation (one_more_of (item_at l idx).generation) v))
unfolding added_item add_item new_item new_generation item_taken new_row head_after used_after with_used_items with_free_items remove_item item_freed freed_item_row with_item_next with_generation
item_again l h idx b =
    let e = ne_eqb idx.0 no_row (omega (arith, rows_few items l)) in
    (rw (e, get-put_same items l idx.0 _ b), λ v. rw (e, get-put_same items l idx.0 _ b, put-put))

pub shelf_again : (l : List ℕ) (h : Header) (idx : ShelfIndex) → idx.0 < shelf_capacity l
    → (added_shelf (remove_shelf l h idx) (with_free_shelves idx h) ≡ record { idx = idx; header = h })
    × ((v : ShelfRow) → add_shelf (remove_shelf l h idx) (with_free_shelves idx h) v ≡ put_shelf l idx v)
unfolding added_shelf add_shelf new_shelf shelf_taken new_row head_after used_after with_used_shelves with_free_shelves remove_shelf freed_shelf_row with_shelf_next
shelf_again l h idx b =
    let e = ne_eqb idx.0 no_row (omega (arith, rows_few shelves l)) in
    (rw (e, get-put_same shelves l idx.0 _ b), λ v. rw (e, put-put))

-- ---- a freed row is one whose numbers are zero, but for next and generation: their sum is

abbrev pub total : List ℕ → ℕ
total [] = 0
total (n ∷ r) = n + total r

pub zero_total : (r : List ℕ) → total r ≡ 0 → r ≡ map (λ n. 0) r
zero_total [] e = refl
zero_total (n ∷ r) e = let z : n ≡ 0 = omega arith in rw (z, ← zero_total r (omega arith))

-- the numbers that are zero in a freed row, and their sum as it is taken
unfoldable pub item_rest : ItemRow → List ℕ
item_rest v = item_numbers (with_item_next (record { 0 = 0 }) (with_generation 0 v))

abbrev pub item_sum : ItemRow → ℕ
item_sum v = v.x + v.width + v.shelf.0 + v.allocated + (v.prev.0 + v.prev_unallocated.0 + v.next_unallocated.0 + 0)

unfoldable pub shelf_rest : ShelfRow → List ℕ
shelf_rest v = shelf_numbers (with_shelf_next (record { 0 = 0 }) v)

abbrev pub shelf_sum : ShelfRow → ℕ
shelf_sum v = v.x + v.y + v.height + v.is_empty + (v.prev.0 + v.first_item.0 + v.first_unallocated.0 + 0)

-- a test of that sum
tests_sum : {A : Type 0} (r : List ℕ) (n : ℕ) → n ≡ total r → (total r ≡ 0 → A) → (A → total r ≡ 0) → Decides (eqb n 0) A
tests_sum r n e to from = record { sound = λ t. to (sym e ∙ eqb-true n 0 t); complete = λ a. eq-eqb n 0 (e ∙ from a) }

module _ (v : ItemRow) where
  pub freed_item : Decides (eqb (item_sum v) 0) (FreedItem v)
  unfolding item_rest freed_item_row with_item_next with_generation
  freed_item =
      tests_sum (item_rest v) (item_sum v) (omega arith)
      (λ z. ap (λ (r : List ℕ). with_item_next v.next (with_generation v.generation (item_of r))) (zero_total (item_rest v) z))
      (λ f. ap (λ (w : ItemRow). total (item_rest w)) f)

  -- so a row with a width is none
  pub freed_thin : FreedItem v → v.width ≡ 0
  unfolding freed_item_row with_item_next with_generation
  freed_thin f = ap (λ (w : ItemRow). w.width) f

module _ (v : ShelfRow) where
  pub freed_shelf_lem : Decides (eqb (shelf_sum v) 0) (FreedShelf v)
  unfolding shelf_rest freed_shelf_row with_shelf_next
  freed_shelf_lem =
      tests_sum (shelf_rest v) (shelf_sum v) (omega arith)
      (λ z. ap (λ (r : List ℕ). with_shelf_next v.next (shelf_of r)) (zero_total (shelf_rest v) z))
      (λ f. ap (λ (w : ShelfRow). total (shelf_rest w)) f)

  -- and so is a row with a depth
  pub freed_flat : FreedShelf v → v.height ≡ 0
  unfolding freed_shelf_row with_shelf_next
  freed_flat f = ap (λ (w : ShelfRow). w.height) f
