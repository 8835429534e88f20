-- The rows that serve in the atlas that is met are the rows that are met. Assumes nothing.
use Rattle.std.specs.Prelude.{◌≡◌}
use Rattle.numbers.specs.Library.{ℕ, refl, List, map}
use Rattle.rows.specs.declared.header.Header.{Header}
use Rattle.rules.specs.Prelude.{Item, Shelf, Freed, shelf_rows_of, item_rows_of, all_item_rows, freed_rows, items_met, all_items_met, shelves_met, item_in_of, shelf_in, freed_in}
use Rattle.laws.proofs.Stored.Lists.{rows-map, gather_map}

pub shelves_serving : (h : Header) (S I l : List ℕ) → shelf_rows_of (map (shelf_in h S I) l) ≡ l
unfolding shelf_in
shelves_serving h S I l = rows-map (λ (s : Shelf). s.row) (shelf_in h S I) (λ r. refl) l

pub items_serving : (I l : List ℕ) → item_rows_of (map (item_in_of I) l) ≡ l
unfolding item_in_of
items_serving I l = rows-map (λ (i : Item). i.row) (item_in_of I) (λ r. refl) l

pub all_serving : (h : Header) (S I : List ℕ) → all_item_rows (map (shelf_in h S I) (shelves_met h S)) ≡ all_items_met h S I
unfolding shelf_in all_items_met
all_serving h S I = gather_map (shelf_in h S I) (λ (s : Shelf). item_rows_of s.items) (items_met h S I) (λ r. items_serving I (items_met h S I r)) (shelves_met h S)

pub freed_serving : (I l : List ℕ) → freed_rows (map (freed_in I) l) ≡ l
unfolding freed_in
freed_serving I l = rows-map (λ (f : Freed). f.row) (freed_in I) (λ r. refl) l
