-- The merges of a release on an opened shelf: a free next item is taken in, then the item is merged into a free previous one or goes to the front of
-- the free list. What the steps do to the item table and the header is what the rules do to the shelf. Assumes nothing.
use Rattle.std.specs.Prelude.{◌≤◌, ◌+◌, ◌≡◌, ◌∷◌, ◌++◌}
use Rattle.numbers.specs.Library.{ℕ, refl, sym, ap, ◌∙◌, inr, Bool, true, false, List, [], List·Memᴰ·head, arith, eqb, ne_eqb}
use Rattle.numbers.specs.Prelude.{pick, pick_ap, no_row}
use Rattle.numbers.specs.declared.index.ItemIndex.{ItemIndex}
use Rattle.chains.specs.Prelude.{◌∈◌, gather, back_onto, first_row, first_of}
use Rattle.chains.proofs.Prelude.{onto_apart, in_onto, self}
use Rattle.rows.specs.Prelude.{get, change, items, with_used_items, with_free_items}
use Rattle.pool.specs.Pool.{item_freed}
use Rattle.rows.specs.declared.header.Header.{Header}
use Rattle.rules.specs.Prelude.{Item, Freed, Pool, Rows, replace_row, Loose, freeing, free_item_row, free_with, merge_next, merge_into, flag, free_rows}
use Rattle.live_rows.specs.Live.{at_row}
use Rattle.item_edits.specs.ItemEdits.{mark_free, unlist, enlist, join_next, first_after}
use Rattle.merge_items.specs.MergeItems.{Loose as Loosened, is_free_item, absorb_next, merge_next as nextMerged, merge_into as intoMerged}
use Rattle.laws.proofs.Shape.Around.{known_yes, known_no}
use Rattle.laws.proofs.Shape.Merging.{loose}
use Rattle.bridge.proofs.Items.RowViews.{seen-prev, seen_next, seen_allocated, seen_next_free}
use Rattle.bridge.proofs.Items.SumsAndFreeLists.{focus_of, replace_at, first_listed}
use Rattle.bridge.proofs.Items.NoWrap.{widths, widths_onto}
use Rattle.bridge.proofs.Items.PoolRows.{freed_row, with_pool}
use Rattle.bridge.proofs.Items.OpenShelf.{Open, some, listed, links_are}
use Rattle.bridge.proofs.Items.MarkItem.{free_of, at_in, body_is}
use Rattle.bridge.proofs.Items.ComposedEdits.{freed_open, push_open, next_open, into_open}

-- the state of the steps is the state of the rules; all else of the header is as in h₀
pub record Loosely (I₀ : List ℕ) (h₀ : Header) (on : ℕ) (others : List ℕ) (m : Loose) (c : Loosened) : Type 0 where
  pub open_at : Open I₀ c.items on (back_onto m.items.before (m.items.this ∷ m.items.after)) m.free m.rows.items others
  pub header : c.header ≡ with_pool m.rows.items h₀
  pub first : c.first ≡ at_row (first_of m.free)

-- with the item in this row marked free
abbrev pub marked : Loosened → ℕ → Loosened
marked c row = record { items = change items c.items row mark_free; header = c.header; first = c.first }

head_of : (p : Pool Freed) (h₀ h : Header) → h ≡ with_pool p h₀ → h.free_items.0 ≡ first_row freed_row p.freed
unfolding with_used_items with_free_items
head_of p h₀ h e = ap (λ (q : Header). q.free_items.0) e

-- a row freed, as the header and the pool have it
freed_header : (p : Pool Freed) (h₀ h : Header) (f : Freed) → h ≡ with_pool p h₀ → item_freed h (at_row f.row) ≡ with_pool (freeing f p) h₀
unfolding item_freed freeing with_used_items with_free_items
freed_header p h₀ h f e = rw e

-- the test of a neighbour, where there is one
free_test : {I₀ I : List ℕ} {on : ℕ} {fl : List ℕ} {p : Pool Freed} {others : List ℕ} (ib : List Item) (i : Item) (ia : List Item)
    → Open I₀ I on (back_onto ib (i ∷ ia)) fl p others → is_free_item I (at_row i.row) ≡ eqb (flag i.live) 0
unfolding is_free_item
free_test {I = I} ib i ia o = rw (ne_eqb i.row no_row (some o i.row (at_in ib i ia o)), seen_allocated (get items I i.row) (body_is ib i ia o))

no_test : (I : List ℕ) → is_free_item I (at_row no_row) ≡ false
unfolding is_free_item
no_test I = refl

-- the first of a free list from which a row is taken
pub first_removed : (first : ItemIndex) (fb : List ℕ) (x : ℕ) (fa : List ℕ) (next : ItemIndex) → (x ∈ fb → ⊥) → first ≡ at_row (first_of (back_onto fb (x ∷ fa))) → next ≡ at_row (first_of fa)
    → first_after first (at_row x) next ≡ at_row (first_of (back_onto fb fa))
unfolding first_after
first_removed first fb x fa next out e q =
    rw (e, q) (sym (pick_ap at_row (eqb (first_of (back_onto fb (x ∷ fa))) x) (first_of fa) (first_of (back_onto fb (x ∷ fa)))) ∙ ap at_row (first_listed fb x (first_of fa) fa fa out refl))

-- ---- the next item

module _ (m : Loosened) (at n : ItemIndex) (e : (get items m.items at.0).next ≡ n) where
  next_step : nextMerged m at ≡ pick (is_free_item m.items (get items m.items at.0).next) (absorb_next m at) m
  unfolding nextMerged is_free_item absorb_next unlist join_next first_after
  next_step = refl

  absorb_step : absorb_next m at ≡ record {
    items = join_next m.header (unlist m.items (get items m.items at.0).next) at;
    header = item_freed m.header (get items m.items at.0).next;
    first = first_after m.first (get items m.items at.0).next (get items m.items (get items m.items at.0).next.0).next_unallocated;
  }
  unfolding absorb_next unlist join_next first_after
  absorb_step = refl

  -- it is taken in where it is free, else nothing changes
  next_taken : is_free_item m.items n ≡ true → nextMerged m at ≡ record {
    items = join_next m.header (unlist m.items n) at;
    header = item_freed m.header n;
    first = first_after m.first n (get items m.items n.0).next_unallocated;
  }
  next_taken b = next_step ∙ rw (e, b, absorb_step, e)

  next_kept : is_free_item m.items n ≡ false → nextMerged m at ≡ m
  next_kept b = next_step ∙ rw (e, b)

module _ (I₀ : List ℕ) (h₀ : Header) (on : ℕ) (others : List ℕ) (ib : List Item) (i : Item) (fl : List ℕ) (r : Rows) (steps : Loosened) (was_live : i.live ≡ true) where
  abbrev freed_item : Item
  freed_item = free_with i i.width

  abbrev marked_now : Loosened
  marked_now = marked steps i.row

  -- the item has no next one, a live one, or a free one; only in the last case the steps join the two
  pub next_merged : (ia : List Item) → ((x : ℕ) → x ∈ free_rows (back_onto ib (i ∷ ia)) → x ∈ fl) → widths (back_onto ib (i ∷ ia)) ≤ 65535
      → Loosely I₀ h₀ on others (loose ib i ia fl r) steps → Loosely I₀ h₀ on others (merge_next (loose ib i ia fl r)) (nextMerged marked_now (at_row i.row))
  unfolding merge_next free_with free_item_row replace_row widths
  next_merged [] all narrow agree =
      let (opened, out) = freed_open ib i [] agree.open_at was_live in
      rw (next_kept marked_now (at_row i.row) (at_row no_row) (seen_next (get items marked_now.items i.row) (body_is ib freed_item [] opened)) (no_test marked_now.items))
      (record { open_at = opened; header = agree.header; first = agree.first })
  next_merged (next-item ∷ ia) all narrow agree = go next-item.live refl where
    opened : Open I₀ marked_now.items on (back_onto ib (freed_item ∷ next-item ∷ ia)) fl r.items others
    opened = (freed_open ib i (next-item ∷ ia) agree.open_at was_live).0

    reads : (get items marked_now.items i.row).next ≡ at_row next-item.row
    reads = seen_next (get items marked_now.items i.row) (body_is ib freed_item (next-item ∷ ia) opened)

    test : (b : Bool) → next-item.live ≡ b → is_free_item marked_now.items (at_row next-item.row) ≡ eqb (flag b) 0
    test b next-flag = free_test (freed_item ∷ ib) next-item ia opened ∙ ap (λ (k : Bool). eqb (flag k) 0) next-flag

    small : i.width + next-item.width ≤ 65535
    small = omega (arith, widths_onto ib (i ∷ next-item ∷ ia))

    merged : (fb fa : List ℕ) → fl ≡ back_onto fb (next-item.row ∷ fa)
        → Loosely I₀ h₀ on others (loose ib (free_with i (i.width + next-item.width)) ia (replace_row next-item.row [] fl) (free_item_row next-item r))
        (record {
          items = join_next steps.header (unlist marked_now.items (at_row next-item.row)) (at_row i.row);
          header = item_freed steps.header (at_row next-item.row);
          first = first_after steps.first (at_row next-item.row) (get items marked_now.items next-item.row).next_unallocated;
        })
    merged fb fa free_are =
        let opened_at : Open I₀ marked_now.items on (back_onto ib (freed_item ∷ next-item ∷ ia)) (back_onto fb (next-item.row ∷ fa)) r.items others = rw free_are at opened in
        let out : next-item.row ∈ fb → ⊥ = λ m. (onto_apart (λ x. x ∷ []) fb (next-item.row ∷ fa) opened_at.free_once).2 next-item.row (rw self m) (List·Memᴰ·head refl) in
        let cut : replace_row next-item.row [] fl ≡ back_onto fb fa = rw free_are (replace_at next-item.row [] fb fa out) in
        rw cut (record {
          open_at = next_open ib i next-item ia fb fa opened_at steps.header (head_of r.items h₀ steps.header agree.header) small;
          header = freed_header r.items h₀ steps.header (record { row = next-item.row; generation = next-item.generation }) agree.header;
          first = first_removed steps.first fb next-item.row fa (get items marked_now.items next-item.row).next_unallocated out (agree.first ∙ ap (λ (k : List ℕ). at_row (first_of k)) free_are) (seen_next_free (get items marked_now.items next-item.row) (links_are fb next-item.row fa opened_at));
        })

    go : (b : Bool) → next-item.live ≡ b → Loosely I₀ h₀ on others (merge_next (loose ib i (next-item ∷ ia) fl r)) (nextMerged marked_now (at_row i.row))
    go true next-flag =
        known_yes (λ m. Loosely I₀ h₀ on others m (nextMerged marked_now (at_row i.row))) next-item.live _ _ next-flag
        (rw (next_kept marked_now (at_row i.row) (at_row next-item.row) reads (test true next-flag)) (record { open_at = opened; header = agree.header; first = agree.first }))
    go false next-flag =
        let (fb, fa, free_are) = focus_of [] fl next-item.row (all next-item.row (in_onto free_of next-item.row (i ∷ ib) (next-item ∷ ia) (inr (known_no (λ x. next-item.row ∈ (x ++ gather free_of ia)) next-item.live _ _ next-flag (List·Memᴰ·head refl))))) in
        known_no (λ m. Loosely I₀ h₀ on others m (nextMerged marked_now (at_row i.row))) next-item.live _ _ next-flag
        (rw (next_taken marked_now (at_row i.row) (at_row next-item.row) reads (test false next-flag)) (merged fb fa free_are))

-- ---- the previous item

module _ (m : Loosened) (at b : ItemIndex) (e : (get items m.items at.0).prev ≡ b) where
  into_step : intoMerged m at ≡ pick (is_free_item m.items (get items m.items at.0).prev)
      (record {
        items = join_next m.header m.items (get items m.items at.0).prev;
        header = item_freed m.header (get items m.items (get items m.items at.0).prev.0).next;
        first = m.first;
      })
      (record { items = enlist m.items m.first at; header = m.header; first = at })
  unfolding intoMerged is_free_item join_next enlist
  into_step = refl

  -- the item is merged into it where it is free, else it goes to the front of the free list
  into_taken : is_free_item m.items b ≡ true → (get items m.items b.0).next ≡ at
      → intoMerged m at ≡ record { items = join_next m.header m.items b; header = item_freed m.header at; first = m.first }
  into_taken t n = into_step ∙ rw (e, t, n)

  into_pushed : is_free_item m.items b ≡ false → intoMerged m at ≡ record { items = enlist m.items m.first at; header = m.header; first = at }
  into_pushed t = into_step ∙ rw (e, t)

module _ (I₀ : List ℕ) (h₀ : Header) (on : ℕ) (others : List ℕ) (i : Item) (ia : List Item) (fl : List ℕ) (r : Rows) (steps : Loosened)
    (is_free : i.live ≡ false) (out : i.row ∈ listed fl → ⊥) where
  -- the item has no previous one, a live one, or a free one; only in the last case the steps join the two
  pub into_merged : (ib : List Item) → widths (back_onto ib (i ∷ ia)) ≤ 65535
      → Loosely I₀ h₀ on others (loose ib i ia fl r) steps → Loosely I₀ h₀ on others (merge_into (loose ib i ia fl r)) (intoMerged steps (at_row i.row))
  unfolding merge_into free_with free_item_row widths
  into_merged [] narrow agree =
      rw (into_pushed steps (at_row i.row) (at_row no_row) (seen-prev (get items steps.items i.row) (body_is [] i ia agree.open_at)) (no_test steps.items), agree.first)
      (record { open_at = push_open [] i ia agree.open_at is_free out; header = agree.header; first = refl })
  into_merged (previous ∷ ib) narrow agree = go previous.live refl where
    opened : Open I₀ steps.items on (back_onto (previous ∷ ib) (i ∷ ia)) fl r.items others
    opened = agree.open_at

    reads : (get items steps.items i.row).prev ≡ at_row previous.row
    reads = seen-prev (get items steps.items i.row) (body_is (previous ∷ ib) i ia opened)

    follows : (get items steps.items previous.row).next ≡ at_row i.row
    follows = seen_next (get items steps.items previous.row) (body_is ib previous (i ∷ ia) opened)

    test : (b : Bool) → previous.live ≡ b → is_free_item steps.items (at_row previous.row) ≡ eqb (flag b) 0
    test b previous-flag = free_test ib previous (i ∷ ia) opened ∙ ap (λ (k : Bool). eqb (flag k) 0) previous-flag

    small : previous.width + i.width ≤ 65535
    small = omega (arith, widths_onto ib (previous ∷ i ∷ ia))

    go : (b : Bool) → previous.live ≡ b → Loosely I₀ h₀ on others (merge_into (loose (previous ∷ ib) i ia fl r)) (intoMerged steps (at_row i.row))
    go true previous-flag =
        known_yes (λ m. Loosely I₀ h₀ on others m (intoMerged steps (at_row i.row))) previous.live _ _ previous-flag
        (rw (into_pushed steps (at_row i.row) (at_row previous.row) reads (test true previous-flag), agree.first) (record { open_at = push_open (previous ∷ ib) i ia opened is_free out; header = agree.header; first = refl }))
    go false previous-flag =
        known_no (λ m. Loosely I₀ h₀ on others m (intoMerged steps (at_row i.row))) previous.live _ _ previous-flag
        (rw (into_taken steps (at_row i.row) (at_row previous.row) reads (test false previous-flag) follows) (record {
          open_at = into_open ib previous i ia opened previous-flag out steps.header (head_of r.items h₀ steps.header agree.header) small;
          header = freed_header r.items h₀ steps.header (record { row = i.row; generation = i.generation }) agree.header;
          first = agree.first;
        }))
