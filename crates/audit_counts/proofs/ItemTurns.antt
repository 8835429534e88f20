-- One turn along the items of a shelf, with what is counted there. The loop does not look whether steps are left: it counts them, and a count of
-- more than the used rows is refused at its end (`Going`). Assumes nothing.
use Rattle.std.specs.Prelude.{◌≡◌, ◌≢◌, ◌&&◌, ◌+◌, ◌-◌, ◌*◌, ◌≤◌, ◌<◌, Some}
use Rattle.numbers.specs.Library.{refl, sym, ◌∙◌, Bool, true, false, and-false, List, ℕ, dec_lt, arith}
use Rattle.numbers.specs.Library.{eq-eqb, ne_eqb, eqb, length}
use Rattle.numbers.specs.Prelude.{no_row}
use Rattle.rows.specs.Prelude.{get, items}
use Rattle.rows.specs.declared.{header.Header.Header, item.ItemRow.ItemRow, shelf.ShelfRow.ShelfRow}
use Rattle.rules.specs.Prelude.{item_next, Along, ItemRight, along, at_left_of, sum_over}
use Rattle.audit_counts.specs.Counts.{apart, free_in_of, live_in, stray_in, free_of, live_of, stray_of, rows_of, RightOf, Small, ShelfTallied}
use Rattle.chains.proofs.Prelude.{Deciding, begins, onward, no_fuel, unended, Lasting, lasts, lasted, last_ended}
use Rattle.audit_counts.proofs.Sums.{Summing, sums, summed, sum-ended}

pub record AtItem (h : Header) (I : List ℕ) (on : ℕ) (s : ShelfRow) (cur fuel : ℕ) (d : Along) (free live stray : ℕ) : Type 0 where
  pub walk :
      Deciding (item_next I) (λ d r. ItemRight h on d (get items I r)) (λ d r. along d r (get items I r)) (λ d. d.x ≡ s.x + h.limits.shelf_width) h.used_items
      (RightOf h I on s) cur fuel d
  pub count : Lasting (item_next I) h.used_items (length (rows_of h I s)) cur fuel
  pub frees : Summing (free_of I) (item_next I) (sum_over (free_of I) (rows_of h I s)) cur fuel free
  pub lives : Summing (live_of I) (item_next I) (sum_over (live_of I) (rows_of h I s)) cur fuel live
  pub strays : Summing (stray_of I) (item_next I) (sum_over (stray_of I) (rows_of h I s)) cur fuel stray

items_begin : (h : Header) (I : List ℕ) (on : ℕ) (s : ShelfRow) → h.used_items ≤ no_row
    → AtItem h I on s s.first_item.0 h.used_items (at_left_of s) 0 0 0
unfolding RightOf rows_of
items_begin h I on s b = record { walk = begins b; count = lasts; frees = sums; lives = sums; strays = sums }

module _ {h : Header} {I : List ℕ} {on : ℕ} {s : ShelfRow} {cur fuel : ℕ} {d : Along} {free live stray : ℕ} (w : AtItem h I on s cur fuel d free live stray)
    (ne : cur ≢ no_row) (i : ItemRow) (e : i ≡ get items I cur) where
  past_at : 1 ≤ fuel → cur < h.used_items → ItemRight h on d i
      → AtItem h I on s i.next.0 (fuel - 1) (along d cur i) (free + free_in_of i) (live + live_in i) (stray + stray_in i)
  past_at f u o =
      rw e (record {
        walk = onward w.walk ne f u (rw e at o);
        count = lasted w.count ne f;
        frees = summed w.frees ne f;
        lives = summed w.lives ne f;
        strays = summed w.strays ne f;
      })

-- ---- counting without looking

pub record Going (h : Header) (I : List ℕ) (on : ℕ) (s : ShelfRow) (cur count : ℕ) (d : Along) (free live stray : ℕ) : Type 0 where
  pub within : count ≤ h.used_items → AtItem h I on s cur (h.used_items - count) d free live stray
  pub beyond : h.used_items < count → RightOf h I on s → ⊥

-- what holds if a count is within the used rows holds if it is refuted beyond them
either : (A : Type 0) (count used : ℕ) → (count ≤ used → A) → (used < count → A) → A
either A count used f g = elim (dec_lt used count) [ yes b ↦ g b | no n ↦ f (omega (arith, n)) ]

pub going_begins : (h : Header) (I : List ℕ) (on : ℕ) (s : ShelfRow) → h.used_items ≤ no_row
    → Going h I on s s.first_item.0 0 (record { prev = no_row; x = s.x; after_free = eqb 0 (s.x + 1) }) 0 (s.x - s.x - 0) 0
going_begins h I on s b =
    let all : h.used_items - 0 ≡ h.used_items = omega arith in
    let none : s.x - s.x - 0 ≡ 0 = omega arith in
    record { within = λ m. rw (none, all, ne_eqb 0 (s.x + 1) (λ e. omega arith)) (items_begin h I on s b); beyond = λ m. absurd (omega arith) }

module _ {h : Header} {I : List ℕ} {on : ℕ} {s : ShelfRow} {cur count : ℕ} {d : Along} {free live stray : ℕ}
    (w : Going h I on s cur count d free live stray) (ne : cur ≢ no_row) where
  module _ (i : ItemRow) (e : i ≡ get items I cur) where
    pub going_past : cur < h.used_items → ItemRight h on d i
        → Going h I on s i.next.0 (count + 1) (along d cur i) (free + free_in_of i) (live + live_in i) (stray + stray_in i)
    going_past u o = record {
      within = λ m.
          let one : (h.used_items - count) - 1 ≡ h.used_items - (count + 1) = omega arith in
          rw (← one) (past_at (w.within (omega arith)) ne i e (omega arith) u o);
      beyond = λ m a. either ⊥ count h.used_items (λ k. no_fuel (w.within k).walk ne (omega arith) a) (λ k. w.beyond k a);
    }

-- ---- one item, as the loop sees it

-- all that is asked of an item, if no free item ends before it
abbrev pub Placed : Header → ℕ → ℕ → ℕ → ItemRow → Type 0
Placed h on prev x i = ItemRight h on (record { prev = prev; x = x; after_free = false }) i

flagged : {h : Header} {on prev x : ℕ} (after : Bool) {i : ItemRow} → Placed h on prev x i → after && eqb i.allocated 0 ≡ false
    → ItemRight h on (record { prev = prev; x = x; after_free = after }) i
flagged after o q = record {
  back = o.back;
  named = o.named;
  at_x = o.at_x;
  some_width = o.some_width;
  aligned = o.aligned;
  flag_right = o.flag_right;
  apart = q;
}

-- how far the two links are from none
links_far : (a b : ℕ) → a ≤ 65535 → b ≤ 65535 → apart a no_row + apart b no_row + (a + b) ≡ 131070
unfolding apart
links_far a b h k = omega arith

-- what the free items leave
gap_wider : (x left gap w none : ℕ) → left + gap ≤ x → none ≡ 0 → x - left - gap + none ≡ x + w - left - (gap + w)
gap_wider x left gap w none h e = omega arith

gap_same : (x left gap w wide : ℕ) → left + gap ≤ x → wide ≡ w → x - left - gap + wide ≡ x + w - left - gap
gap_same x left gap w wide h e = omega arith

going_as : {h : Header} {I : List ℕ} {on : ℕ} {s : ShelfRow} {cur count p x : ℕ} (b b' : Bool) (free free' live live' stray stray' : ℕ)
    → Going h I on s cur count (record { prev = p; x = x; after_free = b }) free live stray → b ≡ b' → free ≡ free' → live ≡ live' → stray ≡ stray'
    → Going h I on s cur count (record { prev = p; x = x; after_free = b' }) free' live' stray'
going_as b b' free free' live live' stray stray' w r t u v = rw (← r, ← t, ← u, ← v) w

-- ---- the loop

-- The loop in row `cur`, with its locals: `edge` is 1 more than the place where the last free item ended, `gap` the width of the free items, `stray` how
-- far the free links of the live ones are from none.
pub record InShelf (h : Header) (I : List ℕ) (on : ℕ) (s : ShelfRow) (cur prev x edge free count gap stray : ℕ) : Type 0 where
  pub going : Going h I on s cur count (record { prev = prev; x = x; after_free = eqb edge (x + 1) }) free (x - s.x - gap) stray
  pub used_most : h.used_items ≤ no_row
  pub x_most : x ≤ 131070
  pub gap_most : s.x + gap ≤ x
  pub count_most : count ≤ x
  pub free_most : free ≤ count
  pub stray_most : stray ≤ count * 131070
  pub edge_most : edge ≤ x + 1

pub shelf_begins : (h : Header) (I : List ℕ) (on : ℕ) (s : ShelfRow) → h.used_items ≤ no_row → s.x ≤ 65535
    → InShelf h I on s s.first_item.0 no_row s.x 0 0 0 0 0
shelf_begins h I on s b m = record {
  going = going_begins h I on s b;
  used_most = b;
  x_most = omega arith;
  gap_most = omega arith;
  count_most = omega arith;
  free_most = omega arith;
  stray_most = omega arith;
  edge_most = omega arith;
}

module _ {h : Header} {I : List ℕ} {on : ℕ} {s : ShelfRow} {cur prev x edge free count gap stray : ℕ}
    (so_far : InShelf h I on s cur prev x edge free count gap stray) where
  pub shelf_ended : cur ≡ no_row → count ≤ h.used_items → x ≡ s.x + h.limits.shelf_width
      → ShelfTallied h I on s (Some (record { count = count; free = free; live = x - s.x - gap; stray = stray }))
  shelf_ended stop few wide =
      let at = so_far.going.within few in
      let n = last_ended at.count stop in (
        unended at.walk so_far.used_most stop wide,
        record {
          counts = record { count = omega (arith, n, few); free = sum-ended at.frees stop; live = sum-ended at.lives stop; stray = sum-ended at.strays stop };
          count_most = omega (arith, few, so_far.used_most);
          free_most = omega (arith, few, so_far.used_most, so_far.free_most);
          live_most = omega (arith, so_far.x_most);
          stray_most = omega (arith, few, so_far.used_most, so_far.stray_most);
        },
      )

  module _ (in_use : cur < h.used_items) (i : ItemRow) (row_is : i ≡ get items I cur) where
    there : cur ≢ no_row
    there q = omega (arith, in_use, q, so_far.used_most)

    module _ (right : Placed h on prev x i) (small : Small i) where
      end_most : x + i.width ≤ 131070
      end_most = omega (arith, right.at_x)

      -- a free item adds 1 to the free ones and its width to the gap; the one before it is not free, since the last free one did not end at x
      pub past_free : i.allocated ≢ 1 → edge ≢ x + 1
          → InShelf h I on s i.next.0 cur (x + i.width) (x + i.width + 1) (free + 1) (count + 1) (gap + i.width) stray
      unfolding along free_in_of live_in stray_in
      past_free flag_is n =
          let test : eqb i.allocated 0 ≡ true = eq-eqb i.allocated 0 (omega (arith, flag_is, right.flag_right)) in
          let one : free_in_of i ≡ 1 = rw test in
          let none : live_in i ≡ 0 = rw test in
          let clean : stray_in i ≡ 0 = rw test in
          record {
            going = going_as _ _ _ _ _ _ _ _ (going_past so_far.going there i row_is in_use (flagged _ right (rw (ne_eqb edge (x + 1) n))))
                (test ∙ sym (eq-eqb (x + i.width + 1) (x + i.width + 1) refl)) (omega (arith, one)) (gap_wider _ _ _ _ _ so_far.gap_most none) (omega (arith, clean));
            used_most = so_far.used_most;
            x_most = end_most;
            gap_most = omega (arith, so_far.gap_most);
            count_most = omega (arith, so_far.count_most, right.some_width);
            free_most = omega (arith, so_far.free_most);
            stray_most = omega (arith, so_far.stray_most);
            edge_most = omega arith;
          }

      -- a live item adds its width to the live ones, and to the strays how far its free links are from none
      pub past_live : (stray' : ℕ) → i.allocated ≡ 1
          → stray' + (i.prev_unallocated.0 + i.next_unallocated.0) ≡ stray + 131070
          → InShelf h I on s i.next.0 cur (x + i.width) edge free (count + 1) gap stray'
      unfolding along free_in_of live_in stray_in
      past_live stray' flag_is stray-is =
          let test : eqb i.allocated 0 ≡ false = ne_eqb i.allocated 0 (λ z. omega (arith, flag_is)) in
          let none : free_in_of i ≡ 0 = rw test in
          let wide : live_in i ≡ i.width = rw test in
          let far : stray_in i ≡ apart i.prev_unallocated.0 no_row + apart i.next_unallocated.0 no_row = rw test in
          record {
            going = going_as _ _ _ _ _ _ _ _ (going_past so_far.going there i row_is in_use (flagged _ right (rw test (and-false (eqb edge (x + 1))))))
                (test ∙ sym (ne_eqb edge (x + i.width + 1) (λ z. omega (arith, right.some_width, so_far.edge_most)))) (omega (arith, none))
                (gap_same _ _ _ _ _ so_far.gap_most wide) (omega (arith, far, stray-is, links_far i.prev_unallocated.0 i.next_unallocated.0 small.prev_free small.next_free));
            used_most = so_far.used_most;
            x_most = end_most;
            gap_most = omega (arith, so_far.gap_most);
            count_most = omega (arith, so_far.count_most, right.some_width);
            free_most = omega (arith, so_far.free_most);
            stray_most = omega (arith, so_far.stray_most, stray-is);
            edge_most = omega (arith, so_far.edge_most);
          }
