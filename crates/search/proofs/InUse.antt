-- What a caller learns of the place that a search answers: shelf and item are used rows, and the item is some row. The walk meets used rows only, and none
-- of them is no row. Assumes nothing.
use Rattle.std.specs.Prelude.{◌<◌, ◌≤◌, ◌≡◌, ◌≢◌, ◌∷◌, None, Some}
use Rattle.numbers.specs.Library.{ℕ, refl, ⊎_elim, Bool, true, false, List, [], List·Memᴰ·head, List·Memᴰ·tail, arith, leb, eqb}
use borrow.Author.Tests.{eqb-false}
use Rattle.numbers.specs.Prelude.{pick, no_row, good_fit_to}
use Rattle.numbers.specs.declared.{index.ItemIndex.ItemIndex, request.Asked.Asked}
use Rattle.rows.specs.Prelude.{get, rows_few, items, shelves}
use Rattle.rows.specs.declared.{header.Header.Header, shelf.ShelfRow.ShelfRow}
use Rattle.chains.specs.Prelude.{◌∈◌, Each, rows_from, Ends, EndsFrom}
use Rattle.chains.proofs.Prelude.{ends_below}
use Rattle.rules.specs.Prelude.{shelf_next, free_next}
use Rattle.search.specs.declared.Place.{Place}
use Rattle.search.specs.Search.{Held, nothing, good, bad, place_of, IsHeld, first_wide, is_bad_fit, skipped, tried, looked, is_exact, walk, search}
use Rattle.search.specs.Walkable.{WalkableFrom, Walkable}
use Rattle.search.proofs.Answered.{some_held}

-- the place that is held, if any, is in used rows
unfoldable pub InUse : Header → Held → Type 0
InUse h nothing = Unit {0}
InUse h (good p depth) = (p.shelf.0 < h.used_shelves) × (p.item.0 < h.used_items)
InUse h (bad p) = (p.shelf.0 < h.used_shelves) × (p.item.0 < h.used_items)

-- ---- the used rows are few enough that none of them is no row

module _ {h : Header} {S I : List ℕ} {at : ℕ} (w : WalkableFrom h S I at) where
  pub few_shelves : h.used_shelves ≤ no_row
  few_shelves = omega (arith, w.shelves_fit, rows_few shelves S)

  pub few_items : h.used_items ≤ no_row
  few_items = omega (arith, w.items_fit, rows_few items I)

-- ---- in a shelf

-- the item found is one of the rows looked through
found_in : (I : List ℕ) (width : ℕ) (l : List ℕ) → (first_wide I width l).0 ≢ no_row → (first_wide I width l).0 ∈ l
unfolding first_wide
found_in I width [] some = absurd (some refl)
found_in I width (r ∷ rest) some = go (leb width (get items I r).width) (first_wide I width rest) (found_in I width rest) some where
  go : (b : Bool) (later : ItemIndex) → (later.0 ≢ no_row → later.0 ∈ rest) → (pick b (record { 0 = r }) later).0 ≢ no_row → (pick b (record { 0 = r }) later).0 ∈ r ∷ rest
  go true later f some = List·Memᴰ·head refl
  go false later f some = List·Memᴰ·tail (f some)

module _ (h : Header) (I : List ℕ) (few : h.used_items ≤ no_row) (q : Asked) (held : Held) (was : InUse h held)
    (at : ℕ) (used : at < h.used_shelves) (s : ShelfRow) (list : EndsFrom (free_next I) h.used_items s.first_unallocated.0) where
  abbrev rows-free : List ℕ
  rows-free = rows_from (free_next I) h.used_items s.first_unallocated.0

  -- what is held after the shelf in row `at`
  pub looked_in_use : InUse h (looked I h.used_items q held at s)
  unfolding looked tried InUse
  looked_in_use = go (skipped q held s) (eqb (first_wide I q.width rows-free).0 no_row) (is_bad_fit (good_fit_to q.depth) s) refl where
    go : (pass none bad_fit_lem : Bool) → eqb (first_wide I q.width rows-free).0 no_row ≡ none
        → let place : Place = record { shelf = record { 0 = at }; item = first_wide I q.width rows-free } in
        InUse h (pick pass held (pick none held (pick bad_fit_lem (bad place) (good place s.height))))
    go true none bad_fit_lem e = was
    go false true bad_fit_lem e = was
    go false false b e = held_at b where
      there : (first_wide I q.width rows-free).0 < h.used_items
      there = ends_below (free_next I) h.used_items few rows-free list.ends _ (found_in I q.width rows-free (eqb-false _ no_row e))

      held_at : (b : Bool) → let place : Place = record { shelf = record { 0 = at }; item = first_wide I q.width rows-free } in InUse h (pick b (bad place) (good place s.height))
      held_at true = (used, there)
      held_at false = (used, there)

-- ---- along the chain

module _ (h : Header) (S I : List ℕ) (few : h.used_items ≤ no_row) (q : Asked) where
  walk_in_use : (held : Held) → InUse h held → (rows : List ℕ) → Ends (shelf_next S) h.used_shelves rows
      → Each (λ r. EndsFrom (free_next I) h.used_items (get shelves S r).first_unallocated.0) rows → InUse h (walk S I h.used_items q held rows)
  unfolding walk
  walk_in_use held was [] ends lists = was
  walk_in_use held was (r ∷ rest) ends lists =
      let then : Held = looked I h.used_items q held r (get shelves S r) in
      let here : InUse h then = looked_in_use h I few q held was r ends.0 (get shelves S r) lists.0 in
      go (is_exact q then) then (walk S I h.used_items q then rest) here (walk_in_use then here rest ends.2 lists.1) where
        go : (b : Bool) (x y : Held) → InUse h x → InUse h y → InUse h (pick b x y)
        go true x y i j = i
        go false x y i j = j

search_in_use : {h : Header} {S I : List ℕ} → Walkable h S I → (q : Asked) → InUse h (search h S I q)
unfolding search InUse
search_in_use {h} {S} {I} w q =
    walk_in_use h S I (few_items w) q nothing tt (rows_from (shelf_next S) h.used_shelves 0) w.chain_ends.ends w.lists_end

-- ---- for callers

item_in : (h : Header) → h.used_items ≤ no_row → (p : Place) (held : Held) → InUse h held → IsHeld p held → p.item.0 ≢ no_row
unfolding InUse
item_in h few p held u =
    ⊎_elim
    (λ (depth, e). let v : InUse h (good p depth) = rw e at u in λ k. omega (arith, v.1))
    (λ e. let v : InUse h (bad p) = rw e at u in λ k. omega (arith, v.1))

used_in : (h : Header) (p : Place) (held : Held) → InUse h held → IsHeld p held → (p.shelf.0 < h.used_shelves) × (p.item.0 < h.used_items)
unfolding InUse
used_in h p held u =
    ⊎_elim
    (λ (depth, e). let v : InUse h (good p depth) = rw e at u in v)
    (λ e. let v : InUse h (bad p) = rw e at u in v)

-- where nothing is held, there is no place
pub nothing_none : place_of nothing ≡ None
unfolding place_of
nothing_none = refl

module _ {h : Header} {S I : List ℕ} (w : Walkable h S I) (q : Asked) where
  pub held_some : (p : Place) → IsHeld p (search h S I q) → p.item.0 ≢ no_row
  held_some p = item_in h (few_items w) p (search h S I q) (search_in_use w q)

  -- and it is in used rows
  pub used_rows : (p : Place) → place_of (search h S I q) ≡ Some p → (p.shelf.0 < h.used_shelves) × (p.item.0 < h.used_items)
  used_rows p e = used_in h p (search h S I q) (search_in_use w q) (some_held p (search h S I q) e)
