-- The walk of the shelf chain, from any shelf on: what the search of the tables holds at each step is what the rules' walk holds, by its rows.
-- Assumes nothing.
use Rattle.std.specs.Prelude.{◌≡◌, ◌≢◌, ◌&&◌, ◌||◌, ◌∷◌}
use Rattle.numbers.specs.Library.{ℕ, refl, ap, ⊎_elim, Bool, true, false, Option, none, some, List, []}
use Rattle.numbers.specs.Library.{List·Memᴰ·head, List·Memᴰ·tail, List·Memᴰ·not-nil, List·Memᴰ·cases-cons, ℕ_discrete, eqb, leb, eq-eqb, ne_eqb}
use Rattle.numbers.specs.Prelude.{pick, no_row, no_item, good_fit_to}
use Rattle.numbers.specs.declared.{index.ItemIndex.ItemIndex, request.Asked.Asked}
use Rattle.rows.specs.Prelude.{get, items, shelves, Body, body_of}
use Rattle.chains.specs.Prelude.{◌∈◌, Each, Focus, first_row, first_of, Chain, rows_from}
use Rattle.chains.proofs.Prelude.{rows_of}
use Rattle.rules.proofs.Flags.{flag_one}
use Rattle.rules.specs.Prelude.{Item, Shelf, is_empty_of, item, shelf, Holds, item_rows_of, free_next}
use Rattle.rules.specs.Search as rule
use Rattle.search.specs.Search as table

-- ---- the first item wide enough, on the free list of one shelf

-- an optional row as a link
abbrev pub link : Option ℕ → ItemIndex
link none = no_item
link (some r) = record { 0 = r }

-- the width that stands in the row of an item
width_says : (I : List ℕ) (on p : ℕ) (is : List Item) → Chain (item on) (λ r. body_of (get items I r)) p is
    → (r : ℕ) → r ∈ item_rows_of is → (get items I r).width ≡ rule.width_of r is
unfolding rule.width_of body_of
width_says I on p [] c r m = absurd (List·Memᴰ·not-nil m)
width_says I on p (i ∷ rest) c r m =
    elim (ℕ_discrete r i.row) [
      | yes e ↦ rw (eq-eqb r i.row e) (rw e (ap (λ (b : Body). b.width) c.0))
      | no n ↦ rw (ne_eqb r i.row n) (width_says I on i.row rest c.1 r (⊎_elim (λ e. absurd (n e)) (λ k. k) (List·Memᴰ·cases-cons m)))
    ]

-- Of one shelf: its items lie in the table, and the walk of its free list meets that list; each row of it is an item's, and some row.
pub record Ready (I : List ℕ) (used : ℕ) (s : Shelf) : Type 0 where
  pub holds : Holds I s
  pub met : rows_from (free_next I) used (first_of s.free) ≡ s.free
  pub listed : (r : ℕ) → r ∈ s.free → (r ∈ item_rows_of s.items) × (r ≢ no_row)

choice : (b : Bool) (r : ℕ) (o : Option ℕ) → pick b (record { 0 = r }) (link o) ≡ link (pick b (some r) o)
choice true r o = refl
choice false r o = refl

-- some rows of items, one after another
wide_part : (I : List ℕ) (s : Shelf) → Holds I s → (width : ℕ) (rows : List ℕ) → ((r : ℕ) → r ∈ rows → r ∈ item_rows_of s.items)
    → table.first_wide I width rows ≡ link (rule.first_wide width s.items rows)
unfolding table.first_wide rule.first_wide
wide_part I s holds width [] mine = refl
wide_part I s holds width (r ∷ rest) mine =
    let wide : (get items I r).width ≡ rule.width_of r s.items = width_says I s.row no_row s.items holds.in_order r (mine r (List·Memᴰ·head refl)) in
    let later : table.first_wide I width rest ≡ link (rule.first_wide width s.items rest) = wide_part I s holds width rest (λ q m. mine q (List·Memᴰ·tail m)) in
    rw (wide, later) (choice (leb width (rule.width_of r s.items)) r (rule.first_wide width s.items rest))

-- ---- one shelf looked at

-- what the walk holds, by its rows
abbrev pub held_rows : rule.Held → table.Held
held_rows rule.nothing = table.nothing
held_rows (rule.good f r) = table.good (record { shelf = record { 0 = f.this.row }; item = record { 0 = r } }) f.this.depth
held_rows (rule.bad f r) = table.bad (record { shelf = record { 0 = f.this.row }; item = record { 0 = r } })

bad_says : (a : Asked) (p n : ℕ) (s : Shelf) → table.is_bad_fit (good_fit_to a.depth) (shelf.says p s n) ≡ rule.is_bad_fit a s
unfolding table.is_bad_fit rule.is_bad_fit table.shelf_is_empty
bad_says a p n s = rw (flag_one (is_empty_of s.items))

passed_says : (a : Asked) (held : rule.Held) (p n : ℕ) (s : Shelf) → table.passed_by a (held_rows held) (shelf.says p s n) ≡ rule.passed_by a held s
unfolding table.passed_by rule.passed_by
passed_says a rule.nothing p n s = refl
passed_says a (rule.good f r) p n s = refl
passed_says a (rule.bad f r) p n s = refl

any_says : (held : rule.Held) → table.holds_any (held_rows held) ≡ rule.holds_any held
unfolding table.holds_any rule.holds_any
any_says rule.nothing = refl
any_says (rule.good f r) = refl
any_says (rule.bad f r) = refl

exact_says : (a : Asked) (held : rule.Held) → table.is_exact a (held_rows held) ≡ rule.is_exact a held
unfolding table.is_exact rule.is_exact
exact_says a rule.nothing = refl
exact_says a (rule.good f r) = refl
exact_says a (rule.bad f r) = refl

-- an item found, by its link
is_none : Option ℕ → Bool
is_none none = true
is_none (some r) = false

found_some : (width : ℕ) (is : List Item) (rows : List ℕ) → ((r : ℕ) → r ∈ rows → r ≢ no_row)
    → eqb (link (rule.first_wide width is rows)).0 no_row ≡ is_none (rule.first_wide width is rows)
unfolding rule.first_wide is_none
found_some width is [] n = refl
found_some width is (r ∷ rest) n = chosen (leb width (rule.width_of r is)) (rule.first_wide width is rest) (ne_eqb r no_row (n r (List·Memᴰ·head refl))) (found_some width is rest (λ q m. n q (List·Memᴰ·tail m))) where
  chosen : (b : Bool) (o : Option ℕ) → eqb r no_row ≡ false → eqb (link o).0 no_row ≡ is_none o → eqb (link (pick b (some r) o)).0 no_row ≡ is_none (pick b (some r) o)
  chosen true o e f = e
  chosen false o e f = f

held_found : (o : Option ℕ) (bad : Bool) (held : rule.Held) (f : Focus Shelf)
    → pick (is_none o) (held_rows held) (pick bad (table.bad (record { shelf = record { 0 = f.this.row }; item = link o })) (table.good (record { shelf = record { 0 = f.this.row }; item = link o }) f.this.depth))
    ≡ held_rows (elim o [ none ↦ held | some r ↦ pick bad (rule.bad f r) (rule.good f r) ])
unfolding is_none
held_found none bad held f = refl
held_found (some r) true held f = refl
held_found (some r) false held f = refl

module _ (I : List ℕ) (used : ℕ) (a : Asked) (held : rule.Held) (f : Focus Shelf) (ready : Ready I used f.this) (p n : ℕ) where
  wide : table.first_wide I a.width (rows_from (free_next I) used (first_of f.this.free)) ≡ link (rule.first_wide a.width f.this.items f.this.free)
  wide = rw ready.met (wide_part I f.this ready.holds a.width f.this.free (λ r m. (ready.listed r m).0))

  tried_says : table.tried I used a (held_rows held) f.this.row (shelf.says p f.this n) ≡ held_rows (rule.tried a held f)
  unfolding table.tried rule.tried
  tried_says =
      rw (wide, bad_says a p n f.this, found_some a.width f.this.items f.this.free (λ r m. (ready.listed r m).1))
      (held_found (rule.first_wide a.width f.this.items f.this.free) (rule.is_bad_fit a f.this) held f)

  pub looked_says : table.looked I used a (held_rows held) f.this.row (shelf.says p f.this n) ≡ held_rows (rule.looked a held f)
  unfolding table.looked rule.looked table.skipped
  looked_says =
      rw (tried_says, passed_says a held p n f.this, bad_says a p n f.this, any_says held)
      (either (rule.passed_by a held f.this || (rule.is_bad_fit a f.this && rule.holds_any held))) where
        either : (b : Bool) → pick b (held_rows held) (held_rows (rule.tried a held f)) ≡ held_rows (pick b held (rule.tried a held f))
        either true = refl
        either false = refl

-- ---- along the chain

module _ (S I : List ℕ) (used : ℕ) (a : Asked) where
  -- from a place in the chain on
  pub walk_says : (held : rule.Held) (before after : List Shelf) (p : ℕ) → Each (Ready I used) after → Chain shelf (get shelves S) p after
      → table.walk S I used a (held_rows held) (rows_of shelf after) ≡ held_rows (rule.walk a held before after)
  unfolding table.walk rule.walk
  walk_says held before [] p ready c = refl
  walk_says held before (s ∷ after) p ready c =
      let f : Focus Shelf = record { before = before; this = s; after = after } in
      rw (
        c.0,
        looked_says I used a held f ready.0 p (first_row shelf.row after),
        exact_says a (rule.looked a held f),
        walk_says (rule.looked a held f) (s ∷ before) after s.row ready.1 c.1,
      )
      (either (rule.is_exact a (rule.looked a held f)) (rule.looked a held f) (rule.walk a (rule.looked a held f) (s ∷ before) after)) where
        either : (b : Bool) (x y : rule.Held) → pick b (held_rows x) (held_rows y) ≡ held_rows (pick b x y)
        either true x y = refl
        either false x y = refl
