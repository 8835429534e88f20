-- Rows that serve on the shelf chain and the item chains: distinct, used, with a depth or a width, flags 0 or 1. Rule 4 follows from rules 2 and 3:
-- a chain that ends stands on distinct rows, and items name their shelf. Assumes nothing.
use Rattle.std.specs.Prelude.{◌≤◌, ◌<◌, ◌≡◌}
use Rattle.numbers.specs.Library.{ℕ, List, arith}
use Rattle.numbers.specs.Prelude.{no_row}
use Rattle.rows.specs.Prelude.{get, rows_few, items, shelves}
use Rattle.rows.specs.declared.header.Header.{Header}
use Rattle.chains.specs.Prelude.{◌∈◌, Distinct}
use Rattle.chains.proofs.Prelude.{ends_distinct, ends_below, walk_each, each_at, gather_in, gather_distinct}
use Rattle.rules.specs.Prelude.{shelf_next, item_next, shelves_met, items_met, all_items_met, ItemsRight, Rule1, Rule2, Rule3, Rule4}

module _ {h : Header} {S I : List ℕ} (one : Rule1 h S I) where
  pub few_shelves : h.used_shelves ≤ no_row
  few_shelves = omega (arith, one.shelves_fit, rows_few shelves S)

  pub few_items : h.used_items ≤ no_row
  few_items = omega (arith, one.items_fit, rows_few items I)

  -- ---- the shelf chain

  module _ (two : Rule2 h S I) where
    pub shelves_distinct : Distinct (shelves_met h S)
    unfolding Rule2 shelves_met
    shelves_distinct = ends_distinct (shelf_next S) h.used_shelves few_shelves (shelves_met h S) two.ends

    pub shelves_below : (r : ℕ) → r ∈ shelves_met h S → r < h.used_shelves
    unfolding Rule2 shelves_met
    shelves_below = ends_below (shelf_next S) h.used_shelves few_shelves (shelves_met h S) two.ends

    pub shelves_deep : (r : ℕ) → r ∈ shelves_met h S → 1 ≤ (get shelves S r).height
    unfolding Rule2 shelves_met
    shelves_deep = walk_each two (λ r. 1 ≤ (get shelves S r).height) (λ d r o. o.some_depth)

  module _ (three : Rule3 h S I) where
    -- ---- the items of a shelf

    module _ (on : ℕ) (m : on ∈ shelves_met h S) where
      pub items_right : ItemsRight h S I on
      unfolding Rule3
      items_right = each_at (ItemsRight h S I) (shelves_met h S) three on m

      pub items_distinct : Distinct (items_met h S I on)
      unfolding ItemsRight items_met
      items_distinct = ends_distinct (item_next I) h.used_items few_items (items_met h S I on) items_right.ends

      items_below : (r : ℕ) → r ∈ items_met h S I on → r < h.used_items
      unfolding ItemsRight items_met
      items_below = ends_below (item_next I) h.used_items few_items (items_met h S I on) items_right.ends

      pub items_named : (r : ℕ) → r ∈ items_met h S I on → (get items I r).shelf.0 ≡ on
      unfolding ItemsRight items_met
      items_named = walk_each items_right (λ r. (get items I r).shelf.0 ≡ on) (λ d r o. o.named)

      pub items_wide : (r : ℕ) → r ∈ items_met h S I on → 1 ≤ (get items I r).width
      unfolding ItemsRight items_met
      items_wide = walk_each items_right (λ r. 1 ≤ (get items I r).width) (λ d r o. o.some_width)

      pub items_flagged : (r : ℕ) → r ∈ items_met h S I on → (get items I r).allocated ≤ 1
      unfolding ItemsRight items_met
      items_flagged = walk_each items_right (λ r. (get items I r).allocated ≤ 1) (λ d r o. o.flag_right)

    -- ---- the items of all the shelves

    all_from : (P : ℕ → Type 0) → ((on : ℕ) → on ∈ shelves_met h S → (r : ℕ) → r ∈ items_met h S I on → P r) → (r : ℕ) → r ∈ all_items_met h S I → P r
    unfolding all_items_met
    all_from P f r m = let (on, k, w) = gather_in (items_met h S I) (shelves_met h S) r m in f on k r w

    pub all_below : (r : ℕ) → r ∈ all_items_met h S I → r < h.used_items
    all_below = all_from (λ r. r < h.used_items) items_below

    pub all_wide : (r : ℕ) → r ∈ all_items_met h S I → 1 ≤ (get items I r).width
    all_wide = all_from (λ r. 1 ≤ (get items I r).width) items_wide

    pub all_flagged : (r : ℕ) → r ∈ all_items_met h S I → (get items I r).allocated ≤ 1
    all_flagged = all_from (λ r. (get items I r).allocated ≤ 1) items_flagged

  module _ (two : Rule2 h S I) (three : Rule3 h S I) where
    pub all_distinct : Distinct (all_items_met h S I)
    unfolding all_items_met
    all_distinct = gather_distinct (items_met h S I) (λ r. (get items I r).shelf.0) (shelves_met h S) (shelves_distinct two) (items_distinct three) (items_named three)

    -- "No row serves twice on these chains."
    pub no_row_twice : Rule4 h S I
    no_row_twice = record { shelves_once = shelves_distinct two; items_once = all_distinct }
