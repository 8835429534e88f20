-- The search ends with nothing exactly where no shelf has a place. Assumes nothing.
use Rattle.std.specs.Prelude.{◌<◌, ◌≤◌, ◌≡◌, ◌&&◌, ◌||◌, ◌∷◌}
use Rattle.numbers.specs.Library.{ℕ, refl, sym, ap, ◌∙◌, subst, ⊎_elim, Bool, true, false, and-false, Option, none, some, List, []}
use Rattle.numbers.specs.Library.{List·Memᴰ·head, List·Memᴰ·tail, List·Memᴰ·not-nil, List·Memᴰ·cases-cons, List·Memᴰ·append-cases}
use Rattle.numbers.specs.Library.{List·Memᴰ·eq-of-singleton, dec_lt, arith, leb, eqb, eq-eqb, ne_eqb, lt-leb, lt-ltb, le-ltb}
use borrow.Author.Tests.{leb-false}
use Rattle.numbers.specs.Prelude.{pick}
use Rattle.numbers.specs.declared.request.Asked.{Asked}
use Rattle.chains.specs.Prelude.{◌∈◌, ◌iff◌, Distinct, Each, Focus}
use Rattle.chains.proofs.Prelude.{distinct_left, distinct_right, not_out, each_frame, each_map, each_both}
use Rattle.rules.specs.Prelude.{Item, Shelf, Atlas, Room, Held, nothing, good, bad, width_of, first_wide, passed_by, is_bad_fit, holds_any, tried, looked, is_exact}
use Rattle.rules.specs.Prelude.{walk, search, shelf_taken, item_taken, upper_part, lower_part, grant, Outcome, refused, gives, Given, free_rows, item_rows_of}
use Rattle.rules.specs.Prelude.{all_item_rows, FreeListed, AllListed, WellFormed}
use Rattle.rows.specs.declared.live.Live.{Live}
use Rattle.laws.specs.Places.{NoPlace}
use Rattle.laws.proofs.Shape.Around.{known_no, pick_cases}
use Rattle.rules.proofs.LiveRows.{free_row}
use Rattle.laws.proofs.Shape.Listed.{row_of, free_of}
use Rattle.laws.proofs.Shape.Granting.{place_so, grant_so}

-- ---- in a shelf

abbrev Narrow : ℕ → Item → Type 0
Narrow width i = i.live ≡ false → i.width < width

-- where no row stands twice, the width of an item's row is the item's
widths : (items : List Item) → Distinct (item_rows_of items) → Each (λ i. width_of i.row items ≡ i.width) items
unfolding width_of
widths [] d = tt
widths (i ∷ items) d = (
  rw (eq-eqb i.row i.row refl),
  each_frame row_of (λ j. width_of j.row items ≡ j.width) (λ j. pick (eqb j.row i.row) i.width (width_of j.row items) ≡ j.width) items
      (λ j m e. rw (ne_eqb j.row i.row (not_out d.0 (m j.row (List·Memᴰ·head refl)))) e)
      (widths items d.1),
)

-- a free row's width, where the free items are narrow
narrow_row : (width : ℕ) (items : List Item) → Distinct (item_rows_of items) → Each (Narrow width) items → (r : ℕ) → r ∈ free_rows items → width_of r items < width
unfolding width_of
narrow_row width [] d e r m = absurd (List·Memᴰ·not-nil m)
narrow_row width (i ∷ items) d e r m =
    let later : r ∈ free_rows items → pick (eqb r i.row) i.width (width_of r items) < width =
    λ k. rw (ne_eqb r i.row (not_out d.0 (free_row items r k))) (narrow_row width items d.1 e.1 r k) in
    ⊎_elim (here i.live refl) later (List·Memᴰ·append-cases (free_of i) m)
  where
    here : (b : Bool) → i.live ≡ b → r ∈ pick b [] (i.row ∷ []) → pick (eqb r i.row) i.width (width_of r items) < width
    here true f k = absurd (List·Memᴰ·not-nil k)
    here false f k = rw (eq-eqb r i.row (List·Memᴰ·eq-of-singleton k)) (e.0 f)

all_narrow : (width : ℕ) (items : List Item) (free : List ℕ) → ((r : ℕ) → r ∈ free → width_of r items < width) → first_wide width items free ≡ none
unfolding first_wide
all_narrow width items [] h = refl
all_narrow width items (r ∷ free) h =
    rw (lt-leb width (width_of r items) (h r (List·Memᴰ·head refl))) (all_narrow width items free (λ q m. h q (List·Memᴰ·tail m)))

none_wide : (width : ℕ) (items : List Item) (free : List ℕ) → first_wide width items free ≡ none → (r : ℕ) → r ∈ free → width_of r items < width
unfolding first_wide
none_wide width items [] e r m = absurd (List·Memᴰ·not-nil m)
none_wide width items (q ∷ free) e r m = go (leb width (width_of q items)) refl e (none_wide width items free) where
  go : (b : Bool) → leb width (width_of q items) ≡ b → pick b (some q) (first_wide width items free) ≡ none
      → (first_wide width items free ≡ none → (r : ℕ) → r ∈ free → width_of r items < width) → width_of r items < width
  go true f k ih = cc
  go false f k ih = ⊎_elim (λ t. rw t (leb-false width (width_of q items) f)) (ih k r) (List·Memᴰ·cases-cons m)

-- What the rows of a shelf are to the search.
record Rowed (s : Shelf) : Type 0 where
  once : Distinct (item_rows_of s.items)
  only : FreeListed s
  all : AllListed s

abbrev NoneWide : Asked → Shelf → Type 0
NoneWide asked s = asked.depth ≤ s.depth → first_wide asked.width s.items s.free ≡ none

shelf_narrow : (width : ℕ) (s : Shelf) → Rowed s → first_wide width s.items s.free ≡ none → Each (Narrow width) s.items
shelf_narrow width s rowed e =
    each_frame free_of (λ i. width_of i.row s.items ≡ i.width) (Narrow width) s.items
    (λ i m w f.
    let r : i.row ∈ free_rows s.items = m i.row (known_no (λ z. i.row ∈ z) i.live [] (i.row ∷ []) f (List·Memᴰ·head refl)) in
    rw w at (none_wide width s.items s.free e i.row (rowed.all i.row r)))
    (widths s.items rowed.once)

narrow_shelf : (width : ℕ) (s : Shelf) → Rowed s → Each (Narrow width) s.items → first_wide width s.items s.free ≡ none
narrow_shelf width s rowed e = all_narrow width s.items s.free (λ r m. narrow_row width s.items rowed.once e r (rowed.only.only r m))

-- ---- along the chain

module _ (asked : Asked) (f : Focus Shelf) where
  -- a look with nothing held
  try_none : first_wide asked.width f.this.items f.this.free ≡ none → tried asked nothing f ≡ nothing
  unfolding tried
  try_none e = ap (λ (o : Option ℕ). elim o as (λ o. Held) [ none ↦ nothing | some row ↦ pick (is_bad_fit asked f.this) (bad f row) (good f row) ]) e

  none_tried : tried asked nothing f ≡ nothing → first_wide asked.width f.this.items f.this.free ≡ none
  unfolding tried holds_any
  none_tried e = go (first_wide asked.width f.this.items f.this.free) (is_bad_fit asked f.this) e where
    go : (o : Option ℕ) (b : Bool) → elim o as (λ o. Held) [ none ↦ nothing | some row ↦ pick b (bad f row) (good f row) ] ≡ nothing → o ≡ none
    go none b k = refl
    go (some row) true k = cc
    go (some row) false k = cc

  look_deep : asked.depth ≤ f.this.depth → looked asked nothing f ≡ tried asked nothing f
  unfolding looked passed_by holds_any
  look_deep h = rw (le-ltb f.this.depth asked.depth h, and-false (is_bad_fit asked f.this))

  look_shallow : f.this.depth < asked.depth → looked asked nothing f ≡ nothing
  unfolding looked passed_by
  look_shallow h = rw (lt-ltb f.this.depth asked.depth h)

  look_none : NoneWide asked f.this → looked asked nothing f ≡ nothing
  look_none h = go (dec_lt f.this.depth asked.depth) where
    go : Dec (f.this.depth < asked.depth) → looked asked nothing f ≡ nothing
    go (yes less) = look_shallow less
    go (no more) = let deep : asked.depth ≤ f.this.depth = omega arith in look_deep deep ∙ try_none (h deep)

  none_looked : looked asked nothing f ≡ nothing → NoneWide asked f.this
  none_looked e deep = none_tried (sym (look_deep deep) ∙ e)

  -- what is held stays held, or another is
  look_holds : (held : Held) → holds_any held ≡ true → holds_any (looked asked held f) ≡ true
  unfolding looked tried holds_any
  look_holds held h =
      pick_cases (λ k. holds_any k ≡ true) (passed_by asked held f.this || (is_bad_fit asked f.this && holds_any held)) held (tried asked held f)
      (λ e. h) (λ e. go (first_wide asked.width f.this.items f.this.free) (is_bad_fit asked f.this)) where
        go : (o : Option ℕ) (b : Bool) → holds_any (elim o as (λ o. Held) [ none ↦ held | some row ↦ pick b (bad f row) (good f row) ]) ≡ true
        go none b = h
        go (some row) true = refl
        go (some row) false = refl

still_holds : (asked : Asked) (held : Held) (before after : List Shelf) → holds_any held ≡ true → holds_any (walk asked held before after) ≡ true
unfolding walk
still_holds asked held before [] h = h
still_holds asked held before (s ∷ after) h =
    let f : Focus Shelf = record { before = before; this = s; after = after } in
    let k : holds_any (looked asked held f) ≡ true = look_holds asked f held h in
    pick_cases (λ q. holds_any q ≡ true) (is_exact asked (looked asked held f)) (looked asked held f) (walk asked (looked asked held f) (s ∷ before) after)
    (λ e. k) (λ e. still_holds asked (looked asked held f) (s ∷ before) after k)

walk_none : (asked : Asked) (before after : List Shelf) → Each (NoneWide asked) after → walk asked nothing before after ≡ nothing
unfolding walk is_exact
walk_none asked before [] e = refl
walk_none asked before (s ∷ after) e =
    rw (look_none asked (record { before = before; this = s; after = after }) e.0) (walk_none asked (s ∷ before) after e.1)

none_walked : (asked : Asked) (before after : List Shelf) → walk asked nothing before after ≡ nothing → Each (NoneWide asked) after
unfolding walk is_exact holds_any
none_walked asked before [] e = tt
none_walked asked before (s ∷ after) e =
    go (looked asked nothing (record { before = before; this = s; after = after })) refl e (none_walked asked (s ∷ before) after) where
      held : (h : Held) → holds_any h ≡ true → pick (is_exact asked h) h (walk asked h (s ∷ before) after) ≡ nothing → ⊥
      held h e k =
          let on : holds_any (pick (is_exact asked h) h (walk asked h (s ∷ before) after)) ≡ true =
          pick_cases (λ q. holds_any q ≡ true) (is_exact asked h) h (walk asked h (s ∷ before) after) (λ _. e) (λ _. still_holds asked h (s ∷ before) after e) in
          let z : true ≡ false = sym on ∙ ap holds_any k in
          cc

      go : (h : Held) → looked asked nothing (record { before = before; this = s; after = after }) ≡ h
          → pick (is_exact asked h) h (walk asked h (s ∷ before) after) ≡ nothing
          → (walk asked nothing (s ∷ before) after ≡ nothing → Each (NoneWide asked) after)
          → NoneWide asked s × Each (NoneWide asked) after
      go nothing q k ih = (none_looked asked (record { before = before; this = s; after = after }) q, ih k)
      go (good g row) q k ih = absurd (held (good g row) refl k)
      go (bad g row) q k ih = absurd (held (bad g row) refl k)

-- ---- in an atlas

each_once : (shelves : List Shelf) → Distinct (all_item_rows shelves) → Each (λ s. Distinct (item_rows_of s.items)) shelves
each_once [] d = tt
each_once (s ∷ shelves) d = (distinct_left (item_rows_of s.items) (all_item_rows shelves) d, each_once shelves (distinct_right (item_rows_of s.items) (all_item_rows shelves) d))

rowed : (room : Room) (a : Atlas) → WellFormed room a → Each Rowed a.shelves
rowed room a formed =
    let once : Shelf → Type 0 = λ s. Distinct (item_rows_of s.items) in
    each_map (λ s. once s × (FreeListed s × AllListed s)) Rowed (λ s w. record { once = w.0; only = w.1.0; all = w.1.1 }) a.shelves
    (each_both once (λ s. FreeListed s × AllListed s) a.shelves (each_once a.shelves formed.sound.item_rows.serving_once)
    (each_both FreeListed AllListed a.shelves formed.sound.free_listed formed.shaped.all_listed))

module _ (room : Room) (a : Atlas) (formed : WellFormed room a) (asked : Asked) where
  pub search_nothing : (search asked a.shelves ≡ nothing) iff NoPlace asked a.shelves
  unfolding search
  search_nothing = (
    λ e.
        each_map (λ s. Rowed s × NoneWide asked s) _ (λ s w deep. shelf_narrow asked.width s w.0 (w.1 deep)) a.shelves
        (each_both Rowed (NoneWide asked) a.shelves (rowed room a formed) (none_walked asked [] a.shelves e)),
    λ h.
        walk_none asked [] a.shelves
        (each_map (λ s. Rowed s × (asked.depth ≤ s.depth → Each (Narrow asked.width) s.items)) (NoneWide asked) (λ s w deep. narrow_shelf asked.width s w.0 (w.1 deep)) a.shelves
        (each_both Rowed _ a.shelves (rowed room a formed) h)),
  )

  -- answer 6 is given where nothing is found, and nowhere else
  pub refuses_6 : (grant room a asked ≡ refused 6) iff (search asked a.shelves ≡ nothing)
  unfolding grant
  refuses_6 = (λ e. subst Six e only refl, λ e. rw (e, grant)) where
    Six : Outcome (Given Live) → Type 0
    Six (refused n) = n ≡ 6 → search asked a.shelves ≡ nothing
    Six (gives g) = Unit {0}

    only : Six (grant room a asked)
    only =
        grant_so room a formed.sound asked Six (λ e q. e) (λ q. absurd (omega arith))
        (λ f w c e.
        place_so a asked Six (record { before = f.before; this = upper_part asked.depth f.this; after = f.after }) w
        (lower_part a.limits a.rows asked.depth f.this ∷ f.after) (item_taken (shelf_taken a.rows)) (λ e. tt) (λ e. tt))
        (λ f w c e. place_so a asked Six f w f.after a.rows (λ e. tt) (λ e. tt))
