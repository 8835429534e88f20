-- Rows in use stay in use: no request makes the used rows of a table fewer. So what a run of requests leaves past the used rows is what stood there before the
-- first. Assumes nothing.
use Rattle.std.specs.Prelude.{◌+◌, ◌≤◌, ◌∷◌, Result, Ok, Err}
use Rattle.numbers.specs.Library.{ℕ, pos, Option, none, some, List, [], ℤ, arith, eqb}
use Rattle.numbers.specs.Prelude.{asked, refusal_number}
use Rattle.numbers.specs.declared.request.Asked.{Asked}
use Rattle.numbers.specs.declared.refusal.Refusal.{Refusal}
use Rattle.rows.specs.declared.live.Live.{Live}
use Rattle.rules.specs.Prelude.{Item, Shelf, Pool, Rows, Atlas, Room, taken, shelf_taken, item_taken, grant, Loose, Stack, Found, freeing, free_item_row, free_shelf_row, free_shelf, merge_next, merge_into}
use Rattle.rules.specs.Prelude.{merge_below, merge_above, holding, find_live, release_found, Outcome, refused, gives, mapped, Given, standing, Call, Allocate, Release, LookUp, Value, tells}
use Rattle.rules.specs.Prelude.{step_in, allocate, release, look_up, WellFormed, done}
use Rattle.rules.specs.Step.{item}
use Rattle.chains.specs.Prelude.{back_onto}
use Rattle.laws.proofs.Shape.Around.{pick_cases}
use Rattle.laws.proofs.Shape.Granting.{Grants, place_so, grant_so}
use Rattle.laws.proofs.Shape.Merging.{next_cases, into_cases, below_cases, above_cases}
use Rattle.batch_rules.specs.Asked.{call_of}
use Rattle.batch_rules.specs.declared.values.Asking.{Asking}

pub record AsMany (r r' : Rows) : Type 0 where
  pub shelves : r.shelves.used ≤ r'.shelves.used
  pub items : r.items.used ≤ r'.items.used

pub as_many : (r : Rows) → AsMany r r
as_many r = record { shelves = omega arith; items = omega arith }

then_many : {r r' r'' : Rows} → AsMany r r' → AsMany r' r'' → AsMany r r''
then_many a b = record { shelves = omega (arith, a.shelves, b.shelves); items = omega (arith, a.items, b.items) }

-- ---- a grant takes rows into use

taken_many : {E : Type 0} (p : Pool E) → p.used ≤ (taken p).used
unfolding taken
taken_many {E} p = go p.freed where
  go : (freed : List E) → p.used ≤ elim freed as (λ _. ℕ) [ [] ↦ p.used + 1 | f ∷ rest ↦ p.used ]
  go [] = omega arith
  go (f ∷ rest) = omega arith

shelf_many : (r : Rows) → AsMany r (shelf_taken r)
unfolding shelf_taken
shelf_many r = record { shelves = taken_many r.shelves; items = omega arith }

item_many : (r : Rows) → AsMany r (item_taken r)
unfolding item_taken
item_many r = record { shelves = omega arith; items = taken_many r.items }

grant_many : (room : Room) (a : Atlas) → WellFormed room a → (q : Asked) → Grants (λ v a'. AsMany a.rows a'.rows) (grant room a q)
grant_many room a formed q =
    let P : Outcome (Given Live) → Type 0 = Grants (λ v a'. AsMany a.rows a'.rows) in
    let two : AsMany a.rows (item_taken (shelf_taken a.rows)) = then_many (shelf_many a.rows) (item_many (shelf_taken a.rows)) in
    grant_so room a formed.sound q P (λ _. tt) tt
    (λ f w _ _. place_so a q P _ w _ _ (λ _. then_many two (item_many (item_taken (shelf_taken a.rows)))) (λ _. two))
    (λ f w _ _. place_so a q P f w f.after a.rows (λ _. item_many a.rows) (λ _. as_many a.rows))

-- ---- a release frees rows, which stay in use

freed_item_many : (i : Item) (r : Rows) → AsMany r (free_item_row i r)
unfolding free_item_row freeing
freed_item_many i r = record { shelves = omega arith; items = omega arith }

freed_shelf_many : (s : Shelf) (r : Rows) → AsMany r (free_shelf_row s r)
unfolding free_shelf_row freeing
freed_shelf_many s r = record { shelves = omega arith; items = omega arith }

free_many : (s : Shelf) (r : Rows) → AsMany r (free_shelf s r)
unfolding free_shelf
free_many s r = go s.items where
  go : (is : List Item) → AsMany r (elim is as (λ _. Rows) [ [] ↦ free_shelf_row s r | i ∷ rest ↦ free_shelf_row s (free_item_row i r) ])
  go [] = freed_shelf_many s r
  go (i ∷ rest) = then_many (freed_item_many i r) (freed_shelf_many s (free_item_row i r))

next_many : (m : Loose) → AsMany m.rows (merge_next m).rows
next_many m =
    next_cases (λ _ k. AsMany m.rows k.rows) m.items.before m.items.this m.free m.rows (as_many m.rows) (λ n ia _. as_many m.rows) (λ n ia _. freed_item_many n m.rows) m.items.after

into_many : (m : Loose) → AsMany m.rows (merge_into m).rows
into_many m =
    into_cases (λ _ k. AsMany m.rows k.rows) m.items.this m.items.after m.free m.rows (as_many m.rows) (λ p ib _. as_many m.rows) (λ p ib _. freed_item_many m.items.this m.rows) m.items.before

below_many : (m : Stack) → AsMany m.rows (merge_below m).rows
below_many m =
    below_cases (λ _ k. AsMany m.rows k.rows) m.shelves.before m.shelves.this m.rows (as_many m.rows) (λ n ys _. free_many n m.rows) (λ n ys _. as_many m.rows) m.shelves.after

above_many : (m : Stack) → AsMany m.rows (merge_above m).rows
above_many m =
    above_cases (λ _ k. AsMany m.rows k.rows) m.shelves.this m.shelves.after m.rows (as_many m.rows) (λ p bs _. free_many m.shelves.this m.rows) (λ p bs _. as_many m.rows) m.shelves.before

release_many : (a : Atlas) (w : Found) → AsMany a.rows (release_found a w).rows
unfolding release_found
release_many a w =
    let start : Loose = record { items = w.item; free = w.shelf.this.free; rows = a.rows } in
    let m : Loose = merge_into (merge_next start) in
    let loosened : Shelf = holding w.shelf.this (back_onto m.items.before (m.items.this ∷ m.items.after)) m.free in
    let k : Stack = record { shelves = record { before = w.shelf.before; this = loosened; after = w.shelf.after }; rows = m.rows } in
    then_many (then_many (next_many start) (into_many (merge_next start))) (then_many (below_many k) (above_many (merge_below k)))

-- ---- a request

abbrev Keeps : Atlas → Outcome (Given Value) → Type 0
Keeps a o = AsMany a.rows (standing a o).rows

asked_many : (room : Room) (a : Atlas) → WellFormed room a → (w height : ℤ) → Keeps a (step_in room a (Allocate w height))
unfolding step_in allocate mapped tells
asked_many room a formed w height = go (asked a.limits w height) where
  granted : (o : Outcome (Given Live)) → Grants (λ v a'. AsMany a.rows a'.rows) o → Keeps a (mapped (λ (g : Given Live). tells g.atlas (item g.told)) o)
  granted (refused n) p = as_many a.rows
  granted (gives g) p = p

  go : (r : Result Asked Refusal) → Keeps a (mapped (λ (g : Given Live). tells g.atlas (item g.told)) (elim r [ Err e ↦ refused (refusal_number e) | Ok q ↦ grant room a q ]))
  go (Err e) = as_many a.rows
  go (Ok q) = granted (grant room a q) (grant_many room a formed q)

released_many : (room : Room) (a : Atlas) (row generation : ℕ) → Keeps a (step_in room a (Release row generation))
unfolding step_in release mapped tells
released_many room a row generation = go (find_live a row generation) where
  go : (o : Option Found) → Keeps a (mapped (λ (next : Atlas). tells next done) (elim o [ none ↦ refused 8 | some w ↦ gives (release_found a w) ]))
  go none = as_many a.rows
  go (some w) = release_many a w

looked_many : (room : Room) (a : Atlas) (row generation : ℕ) → Keeps a (step_in room a (LookUp row generation))
unfolding step_in mapped tells
looked_many room a row generation = go (look_up a row generation) where
  go : (o : Outcome Live) → Keeps a (mapped (λ (l : Live). tells a (item l)) o)
  go (refused n) = as_many a.rows
  go (gives l) = as_many a.rows

pub request_many : (room : Room) (a : Atlas) → WellFormed room a → (q : Asking) → Keeps a (step_in room a (call_of q))
unfolding call_of step_in
request_many room a formed q =
    let P : Call → Type 0 = λ call. Keeps a (step_in room a call) in
    pick_cases P (eqb q.kind 1) _ _ (λ _. asked_many room a formed (pos q.first) (pos q.second))
    (λ _. pick_cases P (eqb q.kind 2) _ _ (λ _. released_many room a q.first q.second)
    (λ _. pick_cases P (eqb q.kind 3) _ _ (λ _. looked_many room a q.first q.second) (λ _. as_many a.rows)))
