-- What a look for a row finds, and what the search for a place finds. Assumes nothing.
use Rattle.std.specs.Prelude.{◌≤◌, ◌≡◌, ◌≢◌, ◌&&◌, ◌||◌, ◌∷◌}
use Rattle.std.proofs.lemmas.Bool.{or_parts}
use Rattle.numbers.specs.Library.{ℕ, refl, sym, ⊎_elim, Bool, true, false, Option, none, some, List, [], List·Memᴰ·head}
use Rattle.numbers.specs.Library.{List·Memᴰ·tail, List·Memᴰ·not-nil, List·Memᴰ·cases-cons, List·Memᴰ·append-cases, ℕ_discrete, leb, ltb, eqb, eq-eqb, ne_eqb}
use Rattle.numbers.specs.Library.{leb-true, ltb-false}
use Rattle.numbers.specs.Prelude.{pick}
use Rattle.numbers.specs.declared.request.Asked.{Asked}
use Rattle.chains.specs.Prelude.{◌∈◌, Distinct, Focus, back_onto}
use Rattle.chains.proofs.Prelude.{distinct_left, onto_apart, each_split}
use Rattle.rules.specs.Prelude.{Item, Shelf, Atlas, Room, Held, nothing, good, bad, width_of, first_wide, passed_by, is_bad_fit, holds_any, tried, looked, is_exact}
use Rattle.rules.specs.Prelude.{walk, search, find_item, Found, find, names, find_live, item_rows_of, all_item_rows, FreeListed, Sound}
use Rattle.laws.specs.Places.{Fits}
use Rattle.laws.proofs.Shape.Around.{pick_cases}

-- ---- the item of a row in a shelf

-- an item where it stands, or none of this row among those not yet looked at
abbrev pub FoundItem : ℕ → List Item → List Item → Option (Focus Item) → Type 0
FoundItem r all left none = r ∈ item_rows_of left → ⊥
FoundItem r all left (some f) = (all ≡ back_onto f.before (f.this ∷ f.after)) × (f.this.row ≡ r) × (width_of r left ≡ f.this.width)

pub find_item_lem : (r : ℕ) (before is : List Item) → FoundItem r (back_onto before is) is (find_item r before is)
unfolding find_item width_of
find_item_lem r before [] = λ m. List·Memᴰ·not-nil m
find_item_lem r before (i ∷ is) = go (ℕ_discrete r i.row) (find_item r (i ∷ before) is) (find_item_lem r (i ∷ before) is) where
  later : (o : Option (Focus Item)) → r ≢ i.row → FoundItem r (back_onto (i ∷ before) is) is o → FoundItem r (back_onto before (i ∷ is)) (i ∷ is) o
  later none n f = λ m. ⊎_elim n f (List·Memᴰ·cases-cons m)
  later (some w) n f = (f.0, f.1, rw (ne_eqb r i.row n) f.2)

  go : Dec (r ≡ i.row) → (o : Option (Focus Item)) → FoundItem r (back_onto (i ∷ before) is) is o
      → FoundItem r (back_onto before (i ∷ is)) (i ∷ is) (pick (eqb r i.row) (some (record { before = before; this = i; after = is })) o)
  go (yes e) o f = rw (eq-eqb r i.row e) (refl, sym e, rw (eq-eqb r i.row e))
  go (no n) o f = rw (ne_eqb r i.row n) (later o n f)

-- and in an atlas
abbrev pub FoundAt : ℕ → List Shelf → List Shelf → Option Found → Type 0
FoundAt r all left none = r ∈ all_item_rows left → ⊥
FoundAt r all left (some w) =
    (all ≡ back_onto w.shelf.before (w.shelf.this ∷ w.shelf.after))
    × (w.shelf.this.items ≡ back_onto w.item.before (w.item.this ∷ w.item.after))
    × (w.item.this.row ≡ r)

pub find_at : (r : ℕ) (before ss : List Shelf) → FoundAt r (back_onto before ss) ss (find r before ss)
unfolding find
find_at r before [] = λ m. List·Memᴰ·not-nil m
find_at r before (s ∷ ss) = go (find_item r [] s.items) (find_item_lem r [] s.items) (find r (s ∷ before) ss) (find_at r (s ∷ before) ss) where
  later : (o : Option Found) → (r ∈ item_rows_of s.items → ⊥) → FoundAt r (back_onto (s ∷ before) ss) ss o → FoundAt r (back_onto before (s ∷ ss)) (s ∷ ss) o
  later none n f = λ m. ⊎_elim n f (List·Memᴰ·append-cases (item_rows_of s.items) m)
  later (some w) n f = f

  go : (p : Option (Focus Item)) → FoundItem r s.items s.items p → (o : Option Found) → FoundAt r (back_onto (s ∷ before) ss) ss o
      → FoundAt r (back_onto before (s ∷ ss)) (s ∷ ss) (elim p [ none ↦ o | some i ↦ some (record { shelf = record { before = before; this = s; after = ss }; item = i }) ])
  go none f o g = later o f g
  go (some i) f o g = (refl, f.0, f.1)

-- and a live one by its row and generation
abbrev pub FoundLive : ℕ → ℕ → List Shelf → Option Found → Type 0
FoundLive row generation all none = Unit {0}
FoundLive row generation all (some w) = FoundAt row all all (some w) × (names row generation w.item.this ≡ true)

pub find_live_lem : (a : Atlas) (row generation : ℕ) → FoundLive row generation a.shelves (find_live a row generation)
unfolding find_live
find_live_lem a row generation = go (find row [] a.shelves) (find_at row [] a.shelves) where
  go : (o : Option Found) → FoundAt row a.shelves a.shelves o
      → FoundLive row generation a.shelves (elim o [ none ↦ none | some w ↦ pick (names row generation w.item.this) (some w) none ])
  go none f = tt
  go (some w) f = pick_cases (FoundLive row generation a.shelves) (names row generation w.item.this) (some w) none (λ e. (f, e)) (λ e. tt)

-- a shelf's rows, each once
pub rows_once : (room : Room) (a : Atlas) → Sound room a → (bs : List Shelf) (s : Shelf) (ys : List Shelf) → a.shelves ≡ back_onto bs (s ∷ ys) → Distinct (item_rows_of s.items)
rows_once room a sound bs s ys e =
    distinct_left (item_rows_of s.items) (all_item_rows ys) (onto_apart (λ (q : Shelf). item_rows_of q.items) bs (s ∷ ys) (rw e at sound.item_rows.serving_once)).1

pub free_only : (room : Room) (a : Atlas) → Sound room a → (bs : List Shelf) (s : Shelf) (ys : List Shelf) → a.shelves ≡ back_onto bs (s ∷ ys) → FreeListed s
free_only room a sound bs s ys e = (each_split FreeListed bs (s ∷ ys) (rw e at sound.free_listed)).1.0

-- ---- the search

abbrev pub Holding : Asked → List Shelf → Held → Type 0
Holding asked shelves nothing = Unit {0}
Holding asked shelves (good f row) = Fits asked shelves f row
Holding asked shelves (bad f row) = Fits asked shelves f row

abbrev Listed : ℕ → List Item → List ℕ → Option ℕ → Type 0
Listed width items free none = Unit {0}
Listed width items free (some row) = (row ∈ free) × (width ≤ width_of row items)

first_listed : (width : ℕ) (items : List Item) (free : List ℕ) → Listed width items free (first_wide width items free)
unfolding first_wide
first_listed width items [] = tt
first_listed width items (row ∷ rest) = go (leb width (width_of row items)) refl (first_wide width items rest) (first_listed width items rest) where
  later : (o : Option ℕ) → Listed width items rest o → Listed width items (row ∷ rest) o
  later none h = tt
  later (some r) h = (List·Memᴰ·tail h.0, h.1)

  go : (b : Bool) → leb width (width_of row items) ≡ b → (o : Option ℕ) → Listed width items rest o → Listed width items (row ∷ rest) (pick b (some row) o)
  go true e o h = (List·Memᴰ·head refl, leb-true width (width_of row items) e)
  go false e o h = later o h

module _ (asked : Asked) (shelves : List Shelf) (f : Focus Shelf) (stands : shelves ≡ back_onto f.before (f.this ∷ f.after)) where
  tried_holds : (held : Held) → asked.depth ≤ f.this.depth → Holding asked shelves held → Holding asked shelves (tried asked held f)
  unfolding tried
  tried_holds held deep h = go (first_wide asked.width f.this.items f.this.free) (first_listed asked.width f.this.items f.this.free) where
    either : (b : Bool) (row : ℕ) → Fits asked shelves f row → Holding asked shelves (pick b (bad f row) (good f row))
    either true row h = h
    either false row h = h

    go : (o : Option ℕ) → Listed asked.width f.this.items f.this.free o
        → Holding asked shelves (elim o [ none ↦ held | some row ↦ pick (is_bad_fit asked f.this) (bad f row) (good f row) ])
    go none m = h
    go (some row) m = either (is_bad_fit asked f.this) row (record { stands = stands; listed = m.0; wide = m.1; deep = deep })

  -- a shelf that is not passed by is deep enough
  enough : (held : Held) → passed_by asked held f.this ≡ false → asked.depth ≤ f.this.depth
  unfolding passed_by
  enough nothing e = ltb-false f.this.depth asked.depth e
  enough (good g row) e = ltb-false f.this.depth asked.depth (or_parts (ltb f.this.depth asked.depth) _ e).0
  enough (bad b row) e = ltb-false f.this.depth asked.depth e

  looked_holds : (held : Held) → Holding asked shelves held → Holding asked shelves (looked asked held f)
  unfolding looked
  looked_holds held h = go (passed_by asked held f.this) refl (is_bad_fit asked f.this && holds_any held) where
    go : (p : Bool) → passed_by asked held f.this ≡ p → (q : Bool) → Holding asked shelves (pick (p || q) held (tried asked held f))
    go true e q = h
    go false e true = h
    go false e false = tried_holds held (enough held e) h

walk_holds : (asked : Asked) (held : Held) (before after : List Shelf) → Holding asked (back_onto before after) held → Holding asked (back_onto before after) (walk asked held before after)
unfolding walk
walk_holds asked held before [] h = h
walk_holds asked held before (s ∷ after) h =
    let f : Focus Shelf = record { before = before; this = s; after = after } in
    go f (looked_holds asked (back_onto before (s ∷ after)) f refl held h) (walk_holds asked (looked asked held f) (s ∷ before) after) where
      either : (all : List Shelf) (b : Bool) (x y : Held) → Holding asked all x → Holding asked all y → Holding asked all (pick b x y)
      either all true x y hx hy = hx
      either all false x y hx hy = hy

      go : (f : Focus Shelf) → Holding asked (back_onto before (s ∷ after)) (looked asked held f)
          → (Holding asked (back_onto before (s ∷ after)) (looked asked held f) → Holding asked (back_onto before (s ∷ after)) (walk asked (looked asked held f) (s ∷ before) after))
          → Holding asked (back_onto before (s ∷ after)) (pick (is_exact asked (looked asked held f)) (looked asked held f) (walk asked (looked asked held f) (s ∷ before) after))
      go f now ih = either _ (is_exact asked (looked asked held f)) _ _ now (ih now)

pub search_holding : (asked : Asked) (shelves : List Shelf) → Holding asked shelves (search asked shelves)
unfolding search
search_holding asked shelves = walk_holds asked nothing [] shelves tt
