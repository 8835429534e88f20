-- The two merges of shelves at the end of a release: the next shelf into this one, then this one into the previous. Each makes the choice that the
-- rules make, and leads to the atlas that they make. Assumes nothing.
use Rattle.std.specs.Prelude.{◌<◌, ◌≤◌, ◌+◌, ◌^◌, ◌≡◌, ◌&&◌, ◌∷◌}
use Rattle.numbers.specs.Library.{ℕ, refl, ap, subst, Bool, true, false, and-false, List, [], arith, eqb}
use mathlib.Core.Bool.{and_assoc}
use Rattle.numbers.specs.Prelude.{pick, no_row, no_shelf, both}
use Rattle.numbers.specs.declared.{index.ShelfIndex.ShelfIndex, limits.Limits.Limits}
use Rattle.chains.specs.Prelude.{back_onto, first_row}
use Rattle.rows.specs.Prelude.{get, rows_few, get_out, shelves, shelf_at_of}
use Rattle.rows.specs.declared.shelf.ShelfRow.{ShelfRow}
use Rattle.rules.specs.Prelude.{Item, Shelf, Rows, Atlas, is_empty_of, Stack, freeing, free_item_row, free_shelf_row, free_shelf, deeper, joins, merge_below, merge_above}
use Rattle.rules.specs.Prelude.{shelf}
use Rattle.rows.specs.State.{State}
use Rattle.search.specs.Search.{shelf_is_empty}
use Rattle.shelf_edits.specs.ShelfEdits.{merge_shelves}
use Rattle.merge.specs.Merge.{joins as joins_at, merge_below as mergeBelowAt, merge_above as mergeAboveAt}
use Rattle.laws.proofs.Shape.Merging.{stack}
use Rattle.bridge.proofs.Stands.{Stands, on_row, shelf_says}
use Rattle.rules.proofs.Flags.{flag_one}
use Rattle.bridge.proofs.Shelves.EmptyShelf.{lone_item_lem}
use Rattle.bridge.proofs.Shelves.MergeShelves.{merge_leads}
use Rattle.bridge.proofs.LeadsTo.{Leads, leads_same, leads_then}

-- the atlas of a stack
abbrev pub stacked : Limits → Stack → Atlas
stacked l m = record { limits = l; shelves = back_onto m.shelves.before (m.shelves.this ∷ m.shelves.after); rows = m.rows }

-- two shelves that join are together no deeper than a row can say
abbrev pub Low : Shelf → Shelf → Type 0
Low s t = joins s t ≡ true → s.depth + t.depth < 2 ^ 16

-- so is it with the shelf of a stack and the next one, and with the one before it
abbrev pub LowBelow : Stack → Type 0
LowBelow m = (n : Shelf) (ys : List Shelf) → m.shelves.after ≡ n ∷ ys → Low m.shelves.this n

abbrev pub LowAbove : Stack → Type 0
LowAbove m = (p : Shelf) (bs : List Shelf) → m.shelves.before ≡ p ∷ bs → Low p m.shelves.this

-- ---- the test of two neighbours, read from their rows; where there is no neighbour, the row that is read is no empty shelf's

joins_read : (S : List ℕ) (s t : Shelf) (b c d e : ℕ) → get shelves S s.row ≡ shelf.says b s c → get shelves S t.row ≡ shelf.says d t e
    → joins_at S (on_row s.row) (on_row t.row) ≡ joins s t
unfolding joins_at shelf_is_empty joins
joins_read S s t b c d e p q = rw (p, q) (simp (flag_one, and_assoc))

none_empty : (S : List ℕ) → shelf_is_empty (get shelves S no_row) ≡ false
unfolding shelf_is_empty shelves
none_empty S = rw (get_out shelves S no_row (rows_few shelves S))

none_below : (S : List ℕ) (at : ShelfIndex) → joins_at S at no_shelf ≡ false
unfolding joins_at
none_below S at = rw (none_empty, and-false)

none_above : (S : List ℕ) (at : ShelfIndex) → joins_at S no_shelf at ≡ false
unfolding joins_at
none_above S at = rw none_empty

-- ---- the choice that a merge makes, as each of the two says it

module _ (st : State) (at : ShelfIndex) where
  below_at : (next : ShelfIndex) → (shelf_at_of st.shelves at).next ≡ next → mergeBelowAt st at ≡ pick (joins_at st.shelves at next) (merge_shelves st at next) st
  unfolding mergeBelowAt
  below_at next e = ap (λ (n : ShelfIndex). pick (joins_at st.shelves at n) (merge_shelves st at n) st) e

  above_at : (prev : ShelfIndex) → (shelf_at_of st.shelves at).prev ≡ prev → mergeAboveAt st at ≡ pick (joins_at st.shelves prev at) (merge_shelves st prev at) st
  unfolding mergeAboveAt
  above_at prev e = ap (λ (n : ShelfIndex). pick (joins_at st.shelves n at) (merge_shelves st n at) st) e

module _ (bs : List Shelf) (s : Shelf) (r : Rows) where
  below_none : merge_below (stack bs s [] r) ≡ stack bs s [] r
  unfolding merge_below
  below_none = refl

  below_rule : (n : Shelf) (ys : List Shelf)
      → merge_below (stack bs s (n ∷ ys) r) ≡ pick (joins s n) (stack bs (deeper s (s.depth + n.depth)) ys (free_shelf n r)) (stack bs s (n ∷ ys) r)
  unfolding merge_below
  below_rule n ys = refl

module _ (s : Shelf) (ys : List Shelf) (r : Rows) where
  above_none : merge_above (stack [] s ys r) ≡ stack [] s ys r
  unfolding merge_above
  above_none = refl

  above_rule : (p : Shelf) (bs : List Shelf)
      → merge_above (stack (p ∷ bs) s ys r) ≡ pick (joins p s) (stack bs (deeper p (p.depth + s.depth)) ys (free_shelf s r)) (stack (p ∷ bs) s ys r)
  unfolding merge_above
  above_rule p bs = refl

-- ---- a shelf merged into the one above it

module _ (st : State) (l : Limits) (bs : List Shelf) (p s : Shelf) (ys : List Shelf) (r : Rows)
    (stands : Stands st (stacked l (stack (p ∷ bs) s ys r))) where
  joined : joins p s ≡ true → p.depth + s.depth < 2 ^ 16
      → Leads st (merge_shelves st (on_row p.row) (on_row s.row)) (stacked l (stack bs (deeper p (p.depth + s.depth)) ys (free_shelf s r)))
  unfolding joins
  joined j low =
      let (empty, same-x) = both (is_empty_of p.items && is_empty_of s.items) (eqb p.x s.x) j in
      let (above, below) = both (is_empty_of p.items) (is_empty_of s.items) empty in
      let (item-above, above-is-lone, above-is-free) = lone_item_lem p.items above in
      let (item-below, below-is-lone, below-is-free) = lone_item_lem s.items below in
      merge_leads st (stacked l (stack (p ∷ bs) s ys r)) bs p s ys item-below item-above refl below-is-lone below-is-free above-is-lone above-is-free low stands

  above_is : get shelves st.shelves p.row ≡ shelf.says (first_row shelf.row bs) p s.row
  above_is = shelf_says st _ stands bs p (s ∷ ys) refl

  below_is : get shelves st.shelves s.row ≡ shelf.says p.row s (first_row shelf.row ys)
  below_is = shelf_says st _ stands (p ∷ bs) s ys refl

  same_test : joins_at st.shelves (on_row p.row) (on_row s.row) ≡ joins p s
  same_test = joins_read st.shelves p s _ _ _ _ above_is below_is

  -- the two merges come to the same choice
  abbrev Choice : Bool → Stack → Type 0
  Choice b m = Leads st (pick b (merge_shelves st (on_row p.row) (on_row s.row)) st)
      (stacked l (pick b (stack bs (deeper p (p.depth + s.depth)) ys (free_shelf s r)) m))

  choice : Low p s → (m : Stack) → stacked l m ≡ stacked l (stack (p ∷ bs) s ys r) → (b : Bool) → joins p s ≡ b → Choice b m
  choice low m e true j = joined j (low j)
  choice low m e false j = rw e (leads_same st _ stands)

  below_next : Low p s → Leads st (mergeBelowAt st (on_row p.row)) (stacked l (merge_below (stack bs p (s ∷ ys) r)))
  below_next low =
      rw (below_at st (on_row p.row) (on_row s.row) (ap (λ (q : ShelfRow). q.next) above_is), same_test, below_rule)
      (choice low (stack bs p (s ∷ ys) r) refl (joins p s) refl)

  above_prev : Low p s → Leads st (mergeAboveAt st (on_row s.row)) (stacked l (merge_above (stack (p ∷ bs) s ys r)))
  above_prev low =
      rw (above_at st (on_row s.row) (on_row p.row) (ap (λ (q : ShelfRow). q.prev) below_is), same_test, above_rule)
      (choice low (stack (p ∷ bs) s ys r) refl (joins p s) refl)

-- ---- the two merges

module _ (st : State) (l : Limits) where
  pub merge_below_lem : (m : Stack) → LowBelow m → Stands st (stacked l m)
      → Leads st (mergeBelowAt st (on_row m.shelves.this.row)) (stacked l (merge_below m))
  merge_below_lem m = go m.shelves.before m.shelves.this m.shelves.after m.rows where
    go : (bs : List Shelf) (s : Shelf) (ys : List Shelf) (r : Rows) → ((n : Shelf) (zs : List Shelf) → ys ≡ n ∷ zs → Low s n)
        → Stands st (stacked l (stack bs s ys r))
        → Leads st (mergeBelowAt st (on_row s.row)) (stacked l (merge_below (stack bs s ys r)))
    go bs s [] r low stands =
        let e : (shelf_at_of st.shelves (on_row s.row)).next ≡ no_shelf = ap (λ (q : ShelfRow). q.next) (shelf_says st _ stands bs s [] refl) in
        rw (below_at st (on_row s.row) no_shelf e, none_below, below_none) (leads_same st _ stands)
    go bs s (n ∷ ys) r low stands = below_next st l bs s n ys r stands (low n ys refl)

  pub merge_above_lem : (m : Stack) → LowAbove m → Stands st (stacked l m)
      → Leads st (mergeAboveAt st (on_row m.shelves.this.row)) (stacked l (merge_above m))
  merge_above_lem m = go m.shelves.before m.shelves.this m.shelves.after m.rows where
    go : (bs : List Shelf) (s : Shelf) (ys : List Shelf) (r : Rows) → ((p : Shelf) (cs : List Shelf) → bs ≡ p ∷ cs → Low p s)
        → Stands st (stacked l (stack bs s ys r))
        → Leads st (mergeAboveAt st (on_row s.row)) (stacked l (merge_above (stack bs s ys r)))
    go [] s ys r low stands =
        let e : (shelf_at_of st.shelves (on_row s.row)).prev ≡ no_shelf = ap (λ (q : ShelfRow). q.prev) (shelf_says st _ stands [] s ys refl) in
        rw (above_at st (on_row s.row) no_shelf e, none_above, above_none) (leads_same st _ stands)
    go (p ∷ bs) s ys r low stands = above_prev st l bs p s ys r stands (low p bs refl)

-- the shelf that the merge below leaves is in the row that it was in
pub below_row : (m : Stack) → (merge_below m).shelves.this.row ≡ m.shelves.this.row
unfolding deeper
below_row m = go m.shelves.before m.shelves.this m.shelves.after m.rows where
  go : (bs : List Shelf) (s : Shelf) (ys : List Shelf) (r : Rows) → (merge_below (stack bs s ys r)).shelves.this.row ≡ s.row
  go bs s [] r = rw below_none
  go bs s (n ∷ ys) r = rw below_rule (kept (joins s n)) where
    kept : (b : Bool) → (pick b (stack bs (deeper s (s.depth + n.depth)) ys (free_shelf n r)) (stack bs s (n ∷ ys) r)).shelves.this.row ≡ s.row
    kept true = refl
    kept false = refl

-- no merge takes a row into use or out of it
above_used : (m : Stack) → (m.rows.shelves.used ≤ (merge_above m).rows.shelves.used) × (m.rows.items.used ≤ (merge_above m).rows.items.used)
unfolding free_shelf free_shelf_row free_item_row freeing
above_used m = go m.shelves.before m.shelves.this m.shelves.after m.rows where
  as_many : (s : Shelf) (is : List Item) (r : Rows) → s.items ≡ is → (r.shelves.used ≤ (free_shelf s r).shelves.used) × (r.items.used ≤ (free_shelf s r).items.used)
  as_many s [] r e = rw (e, free_shelf) (omega arith, omega arith)
  as_many s (i ∷ is) r e = rw (e, free_shelf) (omega arith, omega arith)

  go : (bs : List Shelf) (s : Shelf) (ys : List Shelf) (r : Rows)
      → (r.shelves.used ≤ (merge_above (stack bs s ys r)).rows.shelves.used) × (r.items.used ≤ (merge_above (stack bs s ys r)).rows.items.used)
  go [] s ys r = rw above_none (omega arith, omega arith)
  go (p ∷ bs) s ys r = rw above_rule (chosen (joins p s)) where
    chosen : (b : Bool)
        → (r.shelves.used ≤ (pick b (stack bs (deeper p (p.depth + s.depth)) ys (free_shelf s r)) (stack (p ∷ bs) s ys r)).rows.shelves.used)
        × (r.items.used ≤ (pick b (stack bs (deeper p (p.depth + s.depth)) ys (free_shelf s r)) (stack (p ∷ bs) s ys r)).rows.items.used)
    chosen true = as_many s s.items r refl
    chosen false = (omega arith, omega arith)

-- "merge an empty next shelf of the same column in, then merge into an empty previous one of that column"
pub merge_both : (st : State) (l : Limits) (m : Stack) → LowBelow m → LowAbove (merge_below m) → Stands st (stacked l m)
    → let on : ShelfIndex = on_row m.shelves.this.row in
    Leads st (mergeAboveAt (mergeBelowAt st on) on) (stacked l (merge_above (merge_below m)))
merge_both st l m low_below low_above stands =
    let mid : State = mergeBelowAt st (on_row m.shelves.this.row) in
    let below : Leads st mid (stacked l (merge_below m)) = merge_below_lem st l m low_below stands in
    let above : Leads mid (mergeAboveAt mid (on_row m.shelves.this.row)) (stacked l (merge_above (merge_below m))) =
    subst (λ (r : ℕ). Leads mid (mergeAboveAt mid (on_row r)) (stacked l (merge_above (merge_below m)))) (below_row m) (merge_above_lem mid l (merge_below m) low_above below.stands) in
    let (more_shelves, more_items) = above_used (merge_below m) in
    leads_then more_shelves more_items below above
