-- One turn of the fast walk along a shelf's items. It is the exact walk's turn under a header with alignments of 1 (`loose`), with the widths or-ed
-- beside it. Assumes nothing.
use Rattle.std.specs.Prelude.{◌≡◌, ◌≢◌, ◌+◌, ◌-◌, ◌%◌, ◌^◌, ◌≤◌, ◌<◌, Some}
use Rattle.numbers.specs.Library.{refl, sym, List, ℕ, arith}
use lib.Bits.{bit_or}
use Rattle.numbers.specs.Prelude.{no_row}
use Rattle.rows.specs.Prelude.{get, items}
use Rattle.rows.specs.declared.{header.Header.Header, item.ItemRow.ItemRow, shelf.ShelfRow.ShelfRow}
use Rattle.rules.specs.Prelude.{item_next, sum_over}
use Rattle.audit_counts.specs.Counts.{rows_of, Small, ShelfTallied}
use Rattle.audit_counts.specs.Fast.{LiveOf, FreeOf, Fits, Mark, over, Lives, none, past, loose, odd_of, Even}
use Rattle.audit_counts.proofs.Sums.{Summing, sums, summed_as, sum-ended}
use Rattle.audit_counts.proofs.Widths.{or_even}
use Rattle.audit_counts.proofs.ItemTurns.{InShelf, Placed, shelf_begins, shelf_ended, past_free, past_live}
use Rattle.audit_counts.proofs.Yes.{loose_aligned}

-- ---- a run of live items

-- one more live item, as it was read
pub one_more : {I : List ℕ} {used on : ℕ} {m n : Mark} → Lives I used on m n → n.cur < used → (i : ItemRow) → i ≡ get items I n.cur → LiveOf on i
    → Fits n.prev n.x i → Small i → Lives I used on m (over i n)
one_more so_far u i e live fit small = rw e (past so_far u (rw e at live) (rw e at fit) (rw e at small))

pub more_passed : {I : List ℕ} {used on : ℕ} {m n : Mark} → Lives I used on m n → m.count ≤ n.count
more_passed none = omega arith
more_passed (past so_far u live fit small) = omega (arith, more_passed so_far)

-- ---- the widths

-- Where a power of two divides the widths or-ed so far, it divides each of them: nothing odd was met, so that all that is odd is still to be met.
pub record EvenSoFar (h : Header) (I : List ℕ) (s : ShelfRow) (all cur count widths : ℕ) : Type 0 where
  pub before : (k : ℕ) → widths % 2 ^ k ≡ 0 → all % 2 ^ k ≡ 0
  pub so_far :
      (k : ℕ) → widths % 2 ^ k ≡ 0 → count ≤ h.used_items
      → Summing (odd_of k I) (item_next I) (sum_over (odd_of k I) (rows_of h I s)) cur (h.used_items - count) 0

even_begins : (h : Header) (I : List ℕ) (s : ShelfRow) (all : ℕ) → EvenSoFar h I s all s.first_item.0 0 all
unfolding rows_of
even_begins h I s all =
    let whole : h.used_items - 0 ≡ h.used_items = omega arith in
    record { before = λ k e. e; so_far = λ k e m. rw whole sums }

even_past : {h : Header} {I : List ℕ} {s : ShelfRow} {all cur count widths : ℕ} → EvenSoFar h I s all cur count widths → cur ≢ no_row → (i : ItemRow)
    → i ≡ get items I cur → EvenSoFar h I s all i.next.0 (count + 1) (bit_or widths i.width)
even_past {h} {I} {s} {all} {cur} {count} {widths} w ne i e = record {
  before = λ k d. w.before k (or_even k widths i.width d).0;
  so_far = λ k d m.
      let both = or_even k widths i.width d in
      let odd : 0 ≡ odd_of k I cur = sym (rw e at both.1) in
      let one : (h.used_items - count) - 1 ≡ h.used_items - (count + 1) = omega arith in
      rw (← one) (summed_as (w.so_far k both.0 (omega arith)) ne (omega arith) odd (rw e));
}

-- ---- the loop

-- The walk where `m` says, with the locals that only free items change: `edge` is 1 more than the place where the last one ended, `gap` their width.
-- It counts on from `met`, so that `here` of its items are those of this shelf.
pub record OnShelf (h : Header) (I : List ℕ) (on : ℕ) (s : ShelfRow) (met all edge free gap : ℕ) (m : Mark) : Type 0 where
  pub here : ℕ
  pub count_is : m.count ≡ met + here
  pub turn : InShelf (loose h) I on s m.cur m.prev m.x edge free here gap 0
  pub even : EvenSoFar h I s all m.cur here m.widths

pub on_begins : (h : Header) (I : List ℕ) (on : ℕ) (s : ShelfRow) (met all : ℕ) → h.used_items ≤ no_row → s.x ≤ 65535
    → OnShelf h I on s met all 0 0 0 (record { cur = s.first_item.0; prev = no_row; x = s.x; count = met; widths = all })
unfolding loose
on_begins h I on s met all b m = record { here = 0; count_is = omega arith; turn = shelf_begins (loose h) I on s b m; even = even_begins h I s all }

-- an item that names its shelf and has a flag stands right, if no free item ends before it
stands : (h : Header) {on prev x : ℕ} {i : ItemRow} → i.shelf.0 ≡ on → i.allocated ≤ 1 → Fits prev x i → Placed (loose h) on prev x i
stands h n f o = record {
  back = o.back;
  named = n;
  at_x = o.at_x;
  some_width = o.some_width;
  aligned = loose_aligned h _;
  flag_right = f;
  apart = refl;
}

module _ {h : Header} {I : List ℕ} {on : ℕ} {s : ShelfRow} {met all edge free gap : ℕ} {m : Mark} (so_far : OnShelf h I on s met all edge free gap m)
    (in_use : m.cur < h.used_items) (i : ItemRow) (row_is : i ≡ get items I m.cur) (fit : Fits m.prev m.x i) (small : Small i) where
  row_there : m.cur ≢ no_row
  unfolding loose
  row_there q = omega (arith, in_use, q, so_far.turn.used_most)

  pub on_live : LiveOf on i → OnShelf h I on s met all edge free gap (over i m)
  unfolding loose
  on_live l = record {
    here = so_far.here + 1;
    count_is = omega (arith, so_far.count_is);
    turn = past_live so_far.turn in_use i row_is (stands h l.named (omega (arith, l.is_live)) fit) small 0 l.is_live (omega (arith, l.prev_none, l.next_none));
    even = even_past so_far.even row_there i row_is;
  }

  pub on_free : FreeOf on i → edge ≢ m.x + 1 → OnShelf h I on s met all (m.x + i.width + 1) (free + 1) (gap + i.width) (over i m)
  unfolding loose
  on_free f apart = record {
    here = so_far.here + 1;
    count_is = omega (arith, so_far.count_is);
    turn = past_free so_far.turn in_use i row_is (stands h f.named (omega (arith, f.is_free)) fit) small (λ q. omega (arith, f.is_free)) apart;
    even = even_past so_far.even row_there i row_is;
  }

-- past a run of live items, after which no free item ends either
pub on_lives : {h : Header} {I : List ℕ} {on : ℕ} {s : ShelfRow} {met all edge free gap : ℕ} {m n : Mark} → OnShelf h I on s met all edge free gap m → edge ≢ m.x + 1
    → Lives I h.used_items on m n → OnShelf h I on s met all edge free gap n × (edge ≢ n.x + 1)
on_lives so_far apart none = (so_far, apart)
on_lives so_far apart (past run u live fit small) =
    let before = on_lives so_far apart run in
    (on_live before.0 u _ refl fit small live, λ q. omega (arith, before.0.turn.edge_most, fit.some_width))

-- at the end
module _ {h : Header} {I : List ℕ} {on : ℕ} {s : ShelfRow} {met all edge free gap : ℕ} {m : Mark} (so_far : OnShelf h I on s met all edge free gap m)
    (stop : m.cur ≡ no_row) (few : m.count ≤ h.used_items) (wide : m.x ≡ s.x + h.limits.shelf_width) where
  few_here : so_far.here ≤ h.used_items
  few_here = omega (arith, so_far.count_is)

  pub on_more : met ≤ m.count
  on_more = omega (arith, so_far.count_is)

  pub on_tallied : ShelfTallied (loose h) I on s (Some (record { count = m.count - met; free = free; live = h.limits.shelf_width - gap; stray = 0 }))
  unfolding loose
  on_tallied =
      let live : m.x - s.x - gap ≡ h.limits.shelf_width - gap = omega arith in
      let count : so_far.here ≡ m.count - met = omega (arith, so_far.count_is) in
      rw (live, count) at (shelf_ended so_far.turn stop few_here wide)

  pub on_even : Even h I s all m.widths
  unfolding Even
  on_even k e = (so_far.even.before k e, sym (sum-ended (so_far.even.so_far k e few_here) stop))

  pub on_gap : gap ≤ h.limits.shelf_width
  on_gap = omega (arith, so_far.turn.gap_most)
