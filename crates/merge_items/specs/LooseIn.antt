-- A release on its way through the item table asks that links lead to used rows, or to none. Each of its steps writes rows that it reaches along links,
-- and writes links that it has read, so it leaves header and table as the next one asks. Assumes nothing.
use Rattle.std.specs.Prelude.{◌≡◌}
use Rattle.numbers.specs.Library.{ℕ, sym, subst, Bool, true, false, List, eqb}
use Rattle.numbers.specs.Prelude.{pick}
use Rattle.numbers.specs.declared.index.ItemIndex.{ItemIndex}
use Rattle.rows.specs.Prelude.{item_capacity, item_at, change_item, with_free_items, Below, Linked, LinksWithin, linked-at, within-change, within_again, below_there, linked_there}
use Rattle.rows.specs.declared.header.Header.{Header}
use Rattle.pool.specs.Pool.{item_freed}
use Rattle.item_edits.specs.ItemEdits.{mark_free, unlist, first_after}
use Rattle.item_edits.specs.LinksKept.{linked_mark, within-unlist, within-enlist, within_join}
use Rattle.merge_items.specs.declared.Loosened.{Loosened}
use Rattle.merge_items.specs.MergeItems.{Loose, loose, AreLoose, is_free_item, absorb_next, merge_next, merge_into, loosen}

-- n rows are used. The links in the item table, which was I₀, the head of the freed rows, the first free row of the shelf and the row `at` that is
-- loosened: each is one of them, or none.
pub record LooseIn (n : ℕ) (I₀ : List ℕ) (m : Loose) (at : ItemIndex) : Type 0 where
  pub used : m.header.used_items ≡ n
  pub table : LinksWithin n I₀ m.items
  pub head : Below n m.header.free_items.0
  pub first : Below n m.first.0
  pub here : Below n at.0

-- as a step asks for it
abbrev pub Loosens : Header → ItemIndex → List ℕ → ItemIndex → Type 0
Loosens h first I at = LooseIn h.used_items I (loose h first I) at

-- ---- what the edits ask

module _ {n : ℕ} {I₀ I : List ℕ} (w : LinksWithin n I₀ I) (at : ItemIndex) (b : Below n at.0) where
  pub unlist_asks : Below (item_capacity I) at.0 × Linked (item_capacity I) (item_at I at)
  unlist_asks = (below_there w at.0 b, linked_there w at.0 b)

  pub join_asks : Below (item_capacity I) at.0 × Linked (item_capacity I) (item_at I at) × Linked (item_capacity I) (item_at I (item_at I at).next)
  join_asks = (below_there w at.0 b, linked_there w at.0 b, linked_there w _ (linked-at w at.0 b).next)

-- ---- what the steps leave

first_after_lem : (n : ℕ) (first at new : ItemIndex) → Below n first.0 → Below n new.0 → Below n (first_after first at new).0
unfolding first_after
first_after_lem n first at new b c = go (eqb first.0 at.0) where
  go : (same : Bool) → Below n (pick same new first).0
  go true = c
  go false = b

either : {n : ℕ} {I₀ : List ℕ} {at : ItemIndex} (test : Bool) {m m' : Loose} → LooseIn n I₀ m at → LooseIn n I₀ m' at → LooseIn n I₀ (pick test m m') at
either true w w' = w
either false w w' = w'

module _ {n : ℕ} {I₀ : List ℕ} {m : Loose} {at : ItemIndex} (w : LooseIn n I₀ m at) where
  -- the rows that are linked to the row that is loosened
  pub around : Linked n (item_at m.items at)
  around = linked-at w.table at.0 w.here

  -- what was left asks for no more: the table as it is now is the one to start from
  pub from_here : Loosens m.header m.first m.items at
  from_here = subst (λ (k : ℕ). LooseIn k m.items m at) (sym w.used) (record { used = w.used; table = within_again w.table; head = w.head; first = w.first; here = w.here })

  pub marked : LooseIn n I₀ (loose m.header m.first (change_item m.items at mark_free)) at
  marked = record { used = w.used; table = within-change w.table at.0 mark_free w.here (linked_mark n); head = w.head; first = w.first; here = w.here }

  -- the next item leaves its free list
  pub unlisted : LinksWithin n I₀ (unlist m.items (item_at m.items at).next)
  unlisted = within-unlist w.table _ around.next

  -- it is joined, and its row heads the freed rows
  absorbed : LooseIn n I₀ (absorb_next m at) at
  unfolding absorb_next item_freed with_free_items
  absorbed = record {
    used = w.used;
    table = within_join unlisted m.header at w.head w.here;
    head = around.next;
    first = first_after_lem n m.first _ _ w.first (linked-at w.table _ around.next).next_free;
    here = w.here;
  }

  pub next_in : LooseIn n I₀ (merge_next m at) at
  unfolding merge_next
  next_in = either (is_free_item m.items (item_at m.items at).next) absorbed w

  -- the item is joined to a free previous one, or goes to the front of the free list
  pub into_in : LooseIn n I₀ (merge_into m at) at
  unfolding merge_into item_freed with_free_items
  into_in =
      either (is_free_item m.items (item_at m.items at).prev)
      (record { used = w.used; table = within_join w.table m.header _ w.head around.prev; head = (linked-at w.table _ around.prev).next; first = w.first; here = w.here })
      (record { used = w.used; table = within-enlist w.table m.first at w.first w.here; head = w.head; first = w.here; here = w.here })

-- marked free, then merged with the next item, then into the previous one
pub loosen_in : {n : ℕ} {I₀ : List ℕ} {m : Loose} {at : ItemIndex} → LooseIn n I₀ m at → LooseIn n I₀ (loosen m at) at
unfolding loosen
loosen_in w = into_in (next_in (marked w))

-- the code goes on from what it has left
pub goes_on : {n : ℕ} {I₀ : List ℕ} {m : Loose} {at : ItemIndex} {r : Loosened} {I : List ℕ} → AreLoose m r I → LooseIn n I₀ m at → Loosens r.header r.first I at
goes_on are w = rw (are.header, are.first, are.items) (from_here w)
