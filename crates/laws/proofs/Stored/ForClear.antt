-- Tables that pass the audit can be cleared: the shelf chain goes through C columns, so it has C shelves or more, and each of them an item or more. And the
-- header of a refused create or load passes neither check. Assumes nothing.
use Rattle.std.specs.Prelude.{◌+◌, ◌≤◌, ◌≡◌, ◌∷◌}
use Rattle.numbers.specs.Library.{ℕ, refl, Bool, true, false, List, [], List·Memᴰ·head, List·Memᴰ·tail, arith, length, length-append, eqb}
use Rattle.numbers.specs.Prelude.{pick, columns}
use Rattle.rows.specs.Prelude.{get, items, shelves, zero_header}
use Rattle.rows.specs.declared.{header.Header.Header, shelf.ShelfRow.ShelfRow}
use Rattle.chains.specs.Prelude.{◌∈◌, gather, Holds}
use Rattle.chains.proofs.Prelude.{distinct_below}
use Rattle.rules.specs.Prelude.{shelves_met, items_met, all_items_met, Down, ShelfRight, down, AllColumns, ItemRight, Along, along, ItemsRight, at_left_of, Rule1}
use Rattle.rules.specs.Prelude.{Rule2, Rule3, Passes, PassesForClear}
use Rattle.laws.proofs.Stored.Once.{shelves_distinct, shelves_below, items_right, all_below, all_distinct}

-- ---- shelves: one for each column or more

one_column : (b : Bool) (d e : Down) (n : ℕ) → d.column ≡ n + 1 → e.column ≡ n → (pick b d e).column ≤ n + 1
one_column true d e n p q = omega arith
one_column false d e n p q = omega arith

-- past a shelf the walk is in the same column or in the next
down_one : (h : Header) (d : Down) (r : ℕ) (s : ShelfRow) → (down h d r s).column ≤ d.column + 1
unfolding down
down_one h d r s = one_column (eqb (d.y + s.height) h.limits.height) _ _ d.column refl refl

columns_left : (h : Header) (S I : List ℕ) (d : Down) (rows : List ℕ)
    → Holds (λ d r. ShelfRight h I d (get shelves S r)) (λ d r. down h d r (get shelves S r)) (AllColumns h) d rows → columns h.limits ≤ d.column + length rows
columns_left h S I d [] e = omega (arith, e.0)
columns_left h S I d (r ∷ rs) e = omega (arith, down_one h d r (get shelves S r), columns_left h S I (down h d r (get shelves S r)) rs e.1)

shelves_most : (h : Header) (S I : List ℕ) → Rule2 h S I → columns h.limits ≤ length (shelves_met h S)
unfolding Rule2 shelves_met
shelves_most h S I two = omega (arith, columns_left h S I _ (shelves_met h S) two.holds)

-- ---- items: one for each shelf or more

-- a shelf has a width, which no items would not fill
some_item : (h : Header) (I : List ℕ) (on : ℕ) (s : ShelfRow) (rows : List ℕ) → 1 ≤ h.limits.shelf_width
    → Holds (λ d r. ItemRight h on d (get items I r)) (λ d r. along d r (get items I r)) (λ (d : Along). d.x ≡ s.x + h.limits.shelf_width) (at_left_of s) rows → 1 ≤ length rows
some_item h I on s [] w e = omega arith
some_item h I on s (r ∷ rs) w e = omega arith

gather_most : (f : ℕ → List ℕ) (rows : List ℕ) → ((r : ℕ) → r ∈ rows → 1 ≤ length (f r)) → length rows ≤ length (gather f rows)
gather_most f [] h = omega arith
gather_most f (r ∷ rs) h =
    omega (arith, h r (List·Memᴰ·head refl), gather_most f rs (λ x m. h x (List·Memᴰ·tail m)), length-append (f r) (gather f rs))

module _ {h : Header} {S I : List ℕ} (one : Rule1 h S I) (three : Rule3 h S I) where
  wide_shelf : 1 ≤ h.limits.shelf_width
  wide_shelf = one.limits.s_least

  shelf_items : (on : ℕ) → on ∈ shelves_met h S → 1 ≤ length (items_met h S I on)
  unfolding ItemsRight items_met
  shelf_items on m = some_item h I on (get shelves S on) (items_met h S I on) wide_shelf (items_right one three on m).holds

  items_most : length (shelves_met h S) ≤ length (all_items_met h S I)
  unfolding all_items_met
  items_most = gather_most (items_met h S I) (shelves_met h S) shelf_items

-- ---- clear's check

pub passes_for_clear : (h : Header) (S I : List ℕ) → Passes h S I → PassesForClear h S I
passes_for_clear h S I p =
    let c = shelves_most h S I p.rule2 in
    let s = distinct_below (shelves_met h S) h.used_shelves (shelves_distinct p.rule1 p.rule2) (shelves_below p.rule1 p.rule2) in
    let i = distinct_below (all_items_met h S I) h.used_items (all_distinct p.rule1 p.rule2 p.rule3) (all_below p.rule1 p.rule3) in
    record {
      rule1 = p.rule1;
      shelf_room = omega (arith, c, s, p.rule1.shelves_fit);
      item_room = omega (arith, c, i, items_most p.rule1 p.rule3, p.rule1.items_fit);
    }

-- ---- the header of no atlas

zero_rule1 : (S I : List ℕ) → Rule1 zero_header S I → ⊥
zero_rule1 S I one = omega (arith, one.limits.sizes.w_least)

pub zero_fails : (S I : List ℕ) → Passes zero_header S I → ⊥
zero_fails S I p = zero_rule1 S I p.rule1

pub zero_fails_clear : (S I : List ℕ) → PassesForClear zero_header S I → ⊥
zero_fails_clear S I p = zero_rule1 S I p.rule1
