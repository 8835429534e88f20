-- Answer 7: the tables have rows enough for a place exactly when the rules say that they are not too few. The code counts at most two freed
-- rows, and no place needs more. Assumes nothing.
use Rattle.std.specs.Prelude.{◌+◌, ◌-◌, ◌≤◌, ◌≡◌, ◌≢◌, ◌&&◌, ◌||◌, ◌∷◌}
use Rattle.numbers.specs.Library.{ℕ, suc, refl, sym, ap, ◌∙◌, Bool, true, false, not, List, [], List·Memᴰ·head}
use Rattle.numbers.specs.Library.{List·Memᴰ·tail, arith, length, eqb, leb, ltb, ne_eqb, le-leb, lt-leb, lt-ltb, le-ltb}
use native.Mathlib.Decide.{dec_le}
use Rattle.numbers.specs.Prelude.{pick, no_row}
use Rattle.rows.specs.Prelude.{rows, get, rows_few, items, with_item_next, with_generation, shelves}
use Rattle.pool.specs.Pool.{freed_item_row}
use Rattle.rows.specs.declared.{header.Header.Header, item.ItemRow.ItemRow}
use Rattle.chains.specs.Prelude.{◌∈◌, first_row, first_of, Chain}
use Rattle.rules.specs.Prelude.{Freed, Atlas, freed_item_of, Stores, header_of, room_in, freed_rows, WellFormed}
use Rattle.rules.specs.Grant as rule
use Rattle.plan.specs.Spare as table

-- ---- counting up to what is needed

-- two numbers of which neither or both are enough
same_leb : (k x y : ℕ) → (k ≤ x → k ≤ y) → (k ≤ y → k ≤ x) → leb k x ≡ leb k y
same_leb k x y to from = elim (dec_le k x) [
  | yes h ↦ le-leb k x h ∙ sym (le-leb k y (to h))
  | no n ↦ lt-leb k x (omega arith) ∙ sym (lt-leb k y (let m : ¬ (k ≤ y) = λ h. n (from h) in omega arith))
]

enough_not_few : (k x : ℕ) → leb k x ≡ not (ltb x k)
enough_not_few k x = elim (dec_le k x) [
  | yes h ↦ rw (le-leb k x h, le-ltb x k h)
  | no n ↦ rw (lt-leb k x (omega arith), lt-ltb x k (omega arith))
]

neither : (b c : Bool) → not b && not c ≡ not (b || c)
neither true c = refl
neither false c = refl

need_one : (b : Bool) → rule.count b ≤ 1
unfolding rule.count
need_one true = omega arith
need_one false = omega arith

same_count : (b : Bool) → table.count b ≡ rule.count b
unfolding table.count rule.count
same_count true = refl
same_count false = refl

-- how many freed rows the code sees: one of shelves, two of items
seen_one : List ℕ → ℕ
seen_one fs = pick (eqb (first_of fs) no_row) 0 1

one_enough : (k left : ℕ) (fs : List ℕ) → k ≤ 1 → ((r : ℕ) → r ∈ fs → r ≢ no_row) → leb k (left + seen_one fs) ≡ leb k (left + length fs)
unfolding seen_one
one_enough k left [] h n = refl
one_enough k left (f ∷ fs) h n = rw (ne_eqb f no_row (n f (List·Memᴰ·head refl))) (same_leb k (left + 1) (left + suc (length fs)) (λ q. omega arith) (λ q. omega arith))

next_freed : (I : List ℕ) (f : Freed) (rest : List Freed) (p : ℕ) → get items I f.row ≡ freed_item_of.says p f (first_row freed_item_of.row rest)
    → (get items I f.row).next.0 ≡ first_row freed_item_of.row rest
unfolding freed_item_row with_item_next with_generation
next_freed I f rest p e = ap (λ (v : ItemRow). v.next.0) e

seen_two : List ℕ → List Freed → ℕ
seen_two I fi = pick (eqb (first_row freed_item_of.row fi) no_row) 0 (pick (eqb (get items I (first_row freed_item_of.row fi)).next.0 no_row) 1 2)

two_enough : (I : List ℕ) (k left : ℕ) (fi : List Freed) → k ≤ 2 → ((r : ℕ) → r ∈ freed_rows fi → r ≢ no_row) → Chain freed_item_of (get items I) no_row fi
    → leb k (left + seen_two I fi) ≡ leb k (left + length fi)
unfolding seen_two
two_enough I k left [] h n c = refl
two_enough I k left (f ∷ []) h n c = rw (ne_eqb f.row no_row (n f.row (List·Memᴰ·head refl)), next_freed I f [] no_row c.0)
two_enough I k left (f ∷ g ∷ rest) h n c =
    rw (ne_eqb f.row no_row (n f.row (List·Memᴰ·head refl)), next_freed I f (g ∷ rest) no_row c.0, ne_eqb g.row no_row (n g.row (List·Memᴰ·tail (List·Memᴰ·head refl))))
    (same_leb k (left + 2) (left + suc (suc (length rest))) (λ q. omega arith) (λ q. omega arith))

module _ (h : Header) (S I : List ℕ) (a : Atlas) (stored : Stores h S I a) (formed : WellFormed (room_in S I) a) where
  shelf_some : (r : ℕ) → r ∈ a.rows.shelves.freed → r ≢ no_row
  unfolding room_in
  shelf_some r m e = omega (arith, ((formed.sound.shelf_rows.freed_exactly r).0 m).0, formed.sound.in_room.shelves, rows_few shelves S)

  item_some : (r : ℕ) → r ∈ freed_rows a.rows.items.freed → r ≢ no_row
  unfolding room_in
  item_some r m e = omega (arith, ((formed.sound.item_rows.freed_exactly r).0 m).0, formed.sound.in_room.items, rows_few items I)

  pub enough_says : (shelf-split item-split : Bool) → table.enough_rows h S I shelf-split item-split ≡ not (rule.too_few_rows (room_in S I) a.rows shelf-split item-split)
  unfolding table.enough_rows table.spare_shelves table.spare_items table.freed_shelves table.freed_items rule.too_few_rows room_in header_of seen_one seen_two
  enough_says shelf-split item-split =
      rw (
        stored.header,
        same_count shelf-split,
        same_count item-split,
        one_enough (rule.count shelf-split) (rows shelves S - a.rows.shelves.used) a.rows.shelves.freed (need_one shelf-split) shelf_some,
        two_enough I (rule.count shelf-split + rule.count item-split) (rows items I - a.rows.items.used) a.rows.items.freed (omega (arith, need_one shelf-split, need_one item-split)) item_some stored.freed_items_lem,
        enough_not_few (rule.count shelf-split) (rows shelves S - a.rows.shelves.used + length a.rows.shelves.freed),
        enough_not_few (rule.count shelf-split + rule.count item-split) (rows items I - a.rows.items.used + length a.rows.items.freed),
      )
      (neither (ltb (rows shelves S - a.rows.shelves.used + length a.rows.shelves.freed) (rule.count shelf-split)) (ltb (rows items I - a.rows.items.used + length a.rows.items.freed) (rule.count shelf-split + rule.count item-split)))
