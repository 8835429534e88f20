-- Create and clear write one row of each table for each column, rows 0 to C - 1 and no other, and a fresh atlas is stored in what they write.
-- Assumes nothing.
use Rattle.std.specs.Prelude.{◌<◌, ◌≤◌, ◌+◌, ◌*◌, ◌≡◌}
use Rattle.numbers.specs.Library.{ℕ, zero, suc, refl, ap, ◌∙◌, List, List·Memᴰ·not-nil, suc-mul, le-div_iff_mul-le, ℕ_discrete, arith}
use Rattle.numbers.specs.Library.{lt-ltb, le-ltb}
use Rattle.numbers.specs.declared.limits.Limits.{Limits}
use Rattle.numbers.specs.Prelude.{columns, WithinLimits}
use Rattle.chains.specs.Prelude.{Each, first_row, Chain}
use Rattle.rows.specs.Prelude.{Shape, rows, get, put, rows-put, get-put_same, get-put_other, Past, past_same, past_put, items, shelves, with_shelf_x, with_height}
use Rattle.rows.specs.Prelude.{with_shelf_prev, with_shelf_next, with_first_item, with_first_free, with_empty, with_limits, with_used_shelves, with_used_items, with_free_items}
use Rattle.rows.specs.Prelude.{with_free_shelves, body_of, links_of}
use Rattle.rules.specs.Prelude.{is_empty_of, live_area, occupied, fresh_shelf, fresh_shelves, fresh, shelf, Holds, header_of, Stores, room_in}
use Rattle.wrap.specs.Wrap.{times16, times16_is}
use Rattle.init.specs.Init.{write_rows, row_before, row_after, fresh_shelf_row, fresh_item_row, fresh_shelf_table, fresh_item_table, fresh_header}
use Rattle.bridge.proofs.Items.RowViews.{body_lone, body-lone_item, links-lone_item}

-- ---- rows written one after another

module _ {A : Type 0} (s : Shape A) (f : ℕ → A) where
  pub rows_written : (n : ℕ) (t : List ℕ) → rows s (write_rows s f n t) ≡ rows s t
  unfolding write_rows
  rows_written zero t = refl
  rows_written (suc n) t = rows-put s (write_rows s f n t) n (f n) ∙ rows_written n t

  pub get-written : (n : ℕ) (t : List ℕ) → n ≤ rows s t → (r : ℕ) → r < n → get s (write_rows s f n t) r ≡ f r
  unfolding write_rows
  get-written zero t h r b = absurd (omega arith)
  get-written (suc n) t h r b = go (ℕ_discrete r n) (get-written n t (omega arith) r) where
    go : Dec (r ≡ n) → (r < n → get s (write_rows s f n t) r ≡ f r) → get s (put s (write_rows s f n t) n (f n)) r ≡ f r
    go (yes e) ih = rw e (get-put_same s (write_rows s f n t) n (f n) (rw rows_written (omega arith)))
    go (no d) ih = get-put_other s (write_rows s f n t) n r (f n) d ∙ ih (omega arith)

  past_written : (n m : ℕ) (t : List ℕ) → m ≤ n → Past s n t (write_rows s f m t)
  unfolding write_rows
  past_written n zero t b = past_same s n t
  past_written n (suc m) t b = past_put s n (past_written n m t (omega arith)) m (f m) (omega arith)

module _ (l : Limits) where
  -- ---- they lie in tables that say what create and clear write

  module _ (c : ℕ) (S I : List ℕ) (fits : (k : ℕ) → k < c → times16 k l.shelf_width ≡ k * l.shelf_width)
      (shelf_says : (k : ℕ) → k < c → get shelves S k ≡ fresh_shelf_row l c k) (item_says : (k : ℕ) → k < c → get items I k ≡ fresh_item_row l k) where
    next_fresh : (k n : ℕ) → k + suc n ≡ c → row_after c k ≡ first_row shelf.row (fresh_shelves l (suc k) n)
    unfolding fresh_shelves fresh_shelf row_after
    next_fresh k zero e = rw (le-ltb (k + 1) c (omega arith))
    next_fresh k (suc n) e = rw (lt-ltb (k + 1) c (omega arith)) (omega arith)

    says : (k n : ℕ) → k + suc n ≡ c → fresh_shelf_row l c k ≡ shelf.says (row_before k) (fresh_shelf l k) (first_row shelf.row (fresh_shelves l (suc k) n))
    unfolding fresh_shelf_row fresh_shelf is_empty_of with_shelf_x with_height with_shelf_prev with_shelf_next with_first_item with_first_free with_empty
    says k n e = rw (next_fresh k n e, fits k (omega arith))

    fresh_chain : (k n : ℕ) → k + n ≡ c → Chain shelf (get shelves S) (row_before k) (fresh_shelves l k n)
    unfolding fresh_shelves
    fresh_chain k zero e = tt
    fresh_chain k (suc n) e = (shelf_says k (omega arith) ∙ says k n e, fresh_chain (suc k) n (omega arith))

    fresh_holds : (k n : ℕ) → k + n ≡ c → Each (Holds I) (fresh_shelves l k n)
    unfolding fresh_shelves fresh_shelf fresh_item_row body_lone
    fresh_holds k zero e = tt
    fresh_holds k (suc n) e = (
      record {
        in_order = (ap body_of (item_says k (omega arith)) ∙ rw (body-lone_item, fits k (omega arith)), tt);
        free_order = (ap links_of (item_says k (omega arith)) ∙ rw links-lone_item, tt);
        live_unlinked = λ r m. absurd (List·Memᴰ·not-nil m);
      },
      fresh_holds (suc k) n (omega arith),
    )

  nothing_occupied : (k n : ℕ) → occupied (fresh_shelves l k n) ≡ 0
  unfolding fresh_shelves fresh_shelf occupied live_area
  nothing_occupied k zero = refl
  nothing_occupied k (suc n) = omega (arith, nothing_occupied (suc k) n)

  -- ---- the columns end within the atlas, so no column's x wraps

  column_end : (k : ℕ) → 1 ≤ l.shelf_width → k < columns l → k * l.shelf_width + l.shelf_width ≤ l.width
  unfolding columns
  column_end k some b = rw suc-mul at ((le-div_iff_mul-le {k = l.shelf_width} {x = suc k} {y = l.width} some).0 b)

  module _ (limits : WithinLimits l) (S I : List ℕ) (shelf_room : columns l ≤ rows shelves S) (item_room : columns l ≤ rows items I) where
    abbrev S' : List ℕ
    S' = fresh_shelf_table l (columns l) S

    abbrev I' : List ℕ
    I' = fresh_item_table l (columns l) I

    fits : (k : ℕ) → k < columns l → times16 k l.shelf_width ≡ k * l.shelf_width
    fits k b = times16_is k l.shelf_width (omega (arith, column_end k limits.s_least b, limits.sizes.w_most, limits.s_least))

    shelf_written : (k : ℕ) → k < columns l → get shelves S' k ≡ fresh_shelf_row l (columns l) k
    unfolding fresh_shelf_table
    shelf_written = get-written shelves (fresh_shelf_row l (columns l)) (columns l) S shelf_room

    item_written : (k : ℕ) → k < columns l → get items I' k ≡ fresh_item_row l k
    unfolding fresh_item_table
    item_written = get-written items (fresh_item_row l) (columns l) I item_room

    fresh_header_lem : fresh_header l (columns l) ≡ header_of (fresh l)
    unfolding fresh_header header_of fresh with_limits with_used_shelves with_used_items with_free_items with_free_shelves
    fresh_header_lem = rw nothing_occupied

    pub fresh_lies : Stores (fresh_header l (columns l)) S' I' (fresh l)
    unfolding fresh
    fresh_lies = record {
      header = fresh_header_lem;
      shelf_chain = fresh_chain (columns l) S' I' fits shelf_written item_written 0 (columns l) (omega arith);
      shelf_items = fresh_holds (columns l) S' I' fits shelf_written item_written 0 (columns l) (omega arith);
      freed_shelves_lem = tt;
      freed_items_lem = tt;
    }

-- the tables have the room that they had
pub fresh_room : (l : Limits) (n : ℕ) (S I : List ℕ) → room_in (fresh_shelf_table l n S) (fresh_item_table l n I) ≡ room_in S I
unfolding room_in fresh_shelf_table fresh_item_table
fresh_room l n S I = simp rows_written

-- ---- create and clear write rows 0 to n - 1 only

pub fresh_shelves_past : (l : Limits) (n : ℕ) (S : List ℕ) → Past shelves n S (fresh_shelf_table l n S)
unfolding fresh_shelf_table
fresh_shelves_past l n S = past_written shelves (fresh_shelf_row l n) n n S (omega arith)

pub fresh_items_past : (l : Limits) (n : ℕ) (I : List ℕ) → Past items n I (fresh_item_table l n I)
unfolding fresh_item_table
fresh_items_past l n I = past_written items (fresh_item_row l) n n I (omega arith)
