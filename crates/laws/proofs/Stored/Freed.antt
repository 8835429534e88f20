-- The freed chains and the occupied total: rules 6 and 7 at the rows that are met, and what is read from them. Assumes nothing.
use Rattle.std.specs.Prelude.{◌*◌, ◌<◌, ◌≡◌, ◌∷◌}
use Rattle.numbers.specs.Library.{ℕ, refl, sym, ap, ◌∙◌, Bool, true, false, not, List, [], map, eqb}
use Rattle.numbers.specs.Prelude.{pick}
use Rattle.rows.specs.Prelude.{get, items, with_item_next, with_generation, shelves, with_shelf_next}
use Rattle.pool.specs.Pool.{freed_shelf_row, freed_item_row}
use Rattle.rows.specs.declared.{header.Header.Header, item.ItemRow.ItemRow, shelf.ShelfRow.ShelfRow}
use Rattle.chains.specs.Prelude.{◌∈◌, Each, Chain, Ends}
use Rattle.chains.proofs.Prelude.{self}
use Rattle.rules.specs.Prelude.{live_area, occupied, freed_shelf, freed_item_of, shelf_next, item_next, item_in_of, shelf_in, freed_in, items_met, sum_over, area_met}
use Rattle.laws.proofs.Stored.Lists.{first_map}
use Rattle.laws.proofs.Stored.Follow.{chain_ends}

-- ---- shelf rows

module _ (S : List ℕ) where
  pub freed_shelf_chain : (used p : ℕ) (l : List ℕ) → Ends (shelf_next S) used l → Each (λ r. get shelves S r ≡ freed_shelf_row (get shelves S r).next) l
      → Chain freed_shelf (get shelves S) p l
  freed_shelf_chain used p [] e z = tt
  freed_shelf_chain used p (r ∷ l) e z = (z.0 ∙ ap (λ (n : ℕ). freed_shelf_row (record { 0 = n })) e.1, freed_shelf_chain used r l e.2 z.1)

  pub freed_shelf-next : (r n : ℕ) → get shelves S r ≡ freed_shelf_row (record { 0 = n }) → (get shelves S r).next.0 ≡ n
  unfolding freed_shelf_row with_shelf_next
  freed_shelf-next r n e = ap (λ (s : ShelfRow). s.next.0) e

  pub freed_shelf_zero : (p : ℕ) (l : List ℕ) → Chain freed_shelf (get shelves S) p l → Each (λ r. get shelves S r ≡ freed_shelf_row (get shelves S r).next) l
  freed_shelf_zero p [] c = tt
  freed_shelf_zero p (r ∷ l) c =
      (c.0 ∙ ap (λ (n : ℕ). freed_shelf_row (record { 0 = n })) (sym (freed_shelf-next r _ c.0)), freed_shelf_zero r l c.1)

  pub freed_shelf_ends : (used p : ℕ) (l : List ℕ) → ((r : ℕ) → r ∈ l → r < used) → Chain freed_shelf (get shelves S) p l → Ends (shelf_next S) used l
  freed_shelf_ends used p l b c = rw self at (chain_ends freed_shelf (get shelves S) (shelf_next S) used (λ r p n. freed_shelf-next r n) p l (λ r m. b r (rw self at m)) c)

-- ---- item rows, which keep their generation

module _ (I : List ℕ) where
  pub freed_item_chain : (used p : ℕ) (l : List ℕ) → Ends (item_next I) used l → Each (λ r. get items I r ≡ freed_item_row (get items I r).next (get items I r).generation) l
      → Chain freed_item_of (get items I) p (map (freed_in I) l)
  unfolding freed_in
  freed_item_chain used p [] e z = tt
  freed_item_chain used p (r ∷ l) e z = (
    z.0 ∙ ap (λ (n : ℕ). freed_item_row (record { 0 = n }) (get items I r).generation) (e.1 ∙ sym (first_map (λ f. f.row) (freed_in I) (λ q. refl) l)),
    freed_item_chain used r l e.2 z.1,
  )

  pub freed_item-next : (r n g : ℕ) → get items I r ≡ freed_item_row (record { 0 = n }) g → (get items I r).next.0 ≡ n
  unfolding freed_item_row with_item_next with_generation
  freed_item-next r n g e = ap (λ (s : ItemRow). s.next.0) e

  pub freed_item_zero : (p : ℕ) (l : List ℕ) → Chain freed_item_of (get items I) p (map (freed_in I) l)
      → Each (λ r. get items I r ≡ freed_item_row (get items I r).next (get items I r).generation) l
  unfolding freed_in
  freed_item_zero p [] c = tt
  freed_item_zero p (r ∷ l) c =
      (c.0 ∙ ap (λ (n : ℕ). freed_item_row (record { 0 = n }) (get items I r).generation) (sym (freed_item-next r _ _ c.0)), freed_item_zero r l c.1)

-- ---- the occupied total

not_pick : (b : Bool) (n : ℕ) → pick (not b) n 0 ≡ pick b 0 n
not_pick true n = refl
not_pick false n = refl

live_area_lem : (I : List ℕ) (depth : ℕ) (l : List ℕ)
    → live_area depth (map (item_in_of I) l) ≡ sum_over (λ r. pick (eqb (get items I r).allocated 0) 0 ((get items I r).width * depth)) l
unfolding live_area item_in_of
live_area_lem I depth [] = refl
live_area_lem I depth (r ∷ l) = cc (not_pick (eqb (get items I r).allocated 0) ((get items I r).width * depth), live_area_lem I depth l)

pub occupied_area : (h : Header) (S I l : List ℕ) → occupied (map (shelf_in h S I) l) ≡ sum_over (area_met h S I) l
unfolding occupied shelf_in area_met
occupied_area h S I [] = refl
occupied_area h S I (r ∷ l) = cc (live_area_lem I (get shelves S r).height (items_met h S I r), occupied_area h S I l)
