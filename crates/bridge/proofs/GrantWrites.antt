-- Which rows a grant writes: item rows in use, the one that it takes into use among them, and one shelf row. So all past them stays as it was.
-- Assumes nothing.
use Rattle.std.specs.Prelude.{◌+◌, ◌≤◌, ◌<◌, ◌≡◌, ◌⊎◌, ◌∷◌}
use Rattle.numbers.specs.Library.{ℕ, refl, inl, inr, List, [], List·Memᴰ·head, ℕ_discrete, arith}
use Rattle.numbers.specs.declared.index.ItemIndex.{ItemIndex}
use Rattle.rows.specs.Prelude.{rows, Past, past_same, past_change, items, shelves}
use Rattle.pool.specs.Pool.{new_item, add_item, new_generation}
use Rattle.rows.specs.declared.header.Header.{Header}
use Rattle.chains.specs.Prelude.{◌∈◌}
use Rattle.rules.specs.Prelude.{Pool, new_row, taken, Shared}
use Rattle.item_edits.specs.ItemEdits.{mark_live, split_item}
use Rattle.plan.specs.declared.Plan.{Plan}
use Rattle.grant.specs.Grant.{use_shelf, take_part_items, take_whole_items}
use Rattle.bridge.proofs.Items.PoolRows.{rows_in_of}
use Rattle.rows.specs.Prelude.{Below, Linked, LinksWithin, within-change, within_new, linked_more}
use Rattle.item_edits.specs.LinksKept.{linked-live, linked_span, linked-prev, linked-rest, within-unlist_row, within-relist}

-- ---- the rows in use once one is taken

module _ {E : Type 0} (row : E → ℕ) where
  -- the row taken is one of them, every other was in use before, and none is lost
  pub record TakenRow (p : Pool E) : Type 0 where
    pub there : new_row row p < (taken p).used
    pub more : p.used ≤ (taken p).used
    pub cover : (r : ℕ) → r < (taken p).used → (r ≡ new_row row p) ⊎ (r < p.used)

  pub taken_row : (p : Pool E) (serving : List ℕ) → Shared p.used serving (rows_in_of row p.freed) → TakenRow p
  unfolding new_row taken
  taken_row p serving shared = go p.used p.freed (λ r m. ((shared.freed_exactly r).0 m).0) where
    go : (used : ℕ) (freed : List E) → ((r : ℕ) → r ∈ rows_in_of row freed → r < used) → TakenRow (record { used = used; freed = freed })
    go used [] b = record { there = omega arith; more = omega arith; cover = λ r d. last r (ℕ_discrete r used) d } where
      last : (r : ℕ) → Dec (r ≡ used) → r < used + 1 → (r ≡ used) ⊎ (r < used)
      last r (yes e) d = inl e
      last r (no k) d = inr (omega arith)
    go used (f ∷ freed) b = record { there = b (row f) (List·Memᴰ·head refl); more = omega arith; cover = λ r d. inr d }

-- ---- the item table

-- an item granted whole is taken off its free list and marked
pub whole_past : (n : ℕ) (I : List ℕ) (p : Plan) → LinksWithin n I I → Below n p.item.0 → Linked n p.item_row → Past items n I (take_whole_items I p)
unfolding take_whole_items
whole_past n I p w b l = (within-change (within-unlist_row w p.item_row l) p.item.0 mark_live b (linked-live n)).past

module _ (m n : ℕ) (I : List ℕ) (h : Header) (p : Plan) (w : LinksWithin m I I) (b : p.item.0 < m) (l : Linked m p.item_row)
    (more : m ≤ n) (room : n ≤ rows items I) (there : (new_item h).0 < n) (cover : (r : ℕ) → r < n → (r ≡ (new_item h).0) ⊎ (r < m)) where
  -- the new row is in use then, and the rows that are written besides are the item and the one that it links to
  here : Below n p.item.0
  here = inl (omega arith)

  row_linked : Linked n p.item_row
  row_linked = linked_more m n p.item_row more l

  within_split : LinksWithin n I (split_item h I p.item p.item_row p.width)
  unfolding split_item add_item
  within_split =
      let new : LinksWithin n I _ = within_new w n (new_item h).0 _ more room there cover (linked-rest n p.item_row p.item p.width (new_generation I h) here row_linked) in
      within-change (within-change new p.item.0 _ here (linked_span n p.width (new_item h) (inl there))) _ _ row_linked.next (linked-prev n (new_item h) (inl there))

  pub part_past : Past items n I (take_part_items h I p)
  unfolding take_part_items
  part_past = (within-change (within-relist within_split p.item_row (new_item h) row_linked (inl there)) p.item.0 mark_live here (linked-live n)).past

-- ---- the shelf table

pub use_past : (n : ℕ) (S : List ℕ) (p : Plan) (new : ItemIndex) → p.shelf.0 < n → Past shelves n S (use_shelf S p new)
unfolding use_shelf
use_past n S p new b = past_change shelves n (past_same shelves n S) p.shelf.0 _ (inl b)
