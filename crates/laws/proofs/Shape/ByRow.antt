-- The live records of an atlas by rising row, as `list` tells them, against the same records in the order of its shelves: the same ones, each once.
-- So what the laws say of the one order holds in the other. Assumes nothing.
use Rattle.std.specs.Prelude.{◌+◌, ◌≤◌, ◌<◌, ◌≡◌, ◌≢◌, ◌∷◌, ◌++◌}
use Rattle.numbers.specs.Library.{ℕ, zero, suc, refl, sym, ap, ◌∙◌, inr, Bool, true, false, Option, none, some, List, []}
use Rattle.numbers.specs.Library.{append_assoc, append-nil, List·Memᴰ·head, List·Memᴰ·tail, Memᴰ·append-left, Memᴰ·append-right, ℕ_discrete, arith, eqb, eq-eqb, ne_eqb, eqb-true}
use Rattle.numbers.specs.Prelude.{pick}
use Rattle.numbers.specs.declared.limits.Limits.{Limits}
use Rattle.rows.specs.declared.live.Live.{Live}
use Rattle.chains.specs.Prelude.{◌∈◌, Distinct, Each, Focus}
use Rattle.chains.proofs.Prelude.{each_map, each_both, distinct_left, distinct_right, distinct_apart, in_onto}
use Rattle.rules.specs.Prelude.{Item, Shelf, Atlas, Room, find_item, Found, find, live_of, item_rows_of, all_item_rows, WellFormed, lives_below, list}
use Rattle.rules.specs.Calls.{live_in as liveInRow}
use Rattle.laws.specs.Lives.{flat, live_in, lives_on, lives, OneMore, NoPixelShared, Pairs, areas}
use Rattle.laws.proofs.Shape.Flat.{each_append, pairs_append, Across}
use Rattle.laws.proofs.Shape.Finding.{FoundItem, find_item_lem}
use Rattle.laws.proofs.Shape.Rectangles.{all_apart, one_more-area}

-- ---- records of one row, and by rising row

abbrev pub of_row : ℕ → List Live → List Live
of_row r [] = []
of_row r (v ∷ rest) = pick (eqb r v.row) (v ∷ of_row r rest) (of_row r rest)

-- those of the first n rows
abbrev pub below : List Live → ℕ → List Live
below ls zero = []
below ls (suc n) = below ls n ++ of_row n ls

abbrev pub Rising : Live → Live → Type 0
Rising u v = u.row < v.row

abbrev pub OtherRow : Live → Live → Type 0
OtherRow u v = u.row ≢ v.row

of_row-append : (r : ℕ) (us vs : List Live) → of_row r (us ++ vs) ≡ of_row r us ++ of_row r vs
of_row-append r [] vs = refl
of_row-append r (u ∷ us) vs = go (eqb r u.row) (of_row-append r us vs) where
  go : (b : Bool) → of_row r (us ++ vs) ≡ of_row r us ++ of_row r vs → pick b (u ∷ of_row r (us ++ vs)) (of_row r (us ++ vs)) ≡ pick b (u ∷ of_row r us) (of_row r us) ++ of_row r vs
  go true e = ap (λ (ls : List Live). u ∷ ls) e
  go false e = e

none_of_row : (r : ℕ) (ls : List Live) → Each (λ u. r ≢ u.row) ls → of_row r ls ≡ []
none_of_row r [] e = refl
none_of_row r (u ∷ ls) e = rw (ne_eqb r u.row e.0) (none_of_row r ls e.1)

one_of_row : (v : Live) → of_row v.row (v ∷ []) ≡ v ∷ []
one_of_row v = rw (eq-eqb v.row v.row refl)

-- ---- all of a list with all of it, from each with each later one, and back

module _ {A : Type 0} (R Q : A → A → Type 0) where
  pub pairs_across : ((u : A) → Q u u) → ((u w : A) → R u w → Q u w × Q w u) → (ls : List A) → Pairs R ls → Across Q ls ls
  pairs_across same h [] p = tt
  pairs_across same h (v ∷ ls) p = (
    (same v, each_map (R v) (Q v) (λ w r. (h v w r).0) ls p.0),
    each_map (λ u. R v u × Each (Q u) ls) (λ u. Each (Q u) (v ∷ ls)) (λ u w. ((h v u w.0).1, w.1)) ls
        (each_both (R v) (λ u. Each (Q u) ls) ls p.0 (pairs_across same h ls p.1)),
  )

  pub across_pairs : (T : A → A → Type 0) → ((u w : A) → Q u w → R u w → T u w) → (ls : List A) → Across Q ls ls → Pairs R ls → Pairs T ls
  across_pairs T h [] q p = tt
  across_pairs T h (v ∷ ls) q p = (
    each_map (λ w. Q v w × R v w) (T v) (λ w k. h v w k.0 k.1) ls (each_both (Q v) (R v) ls q.0.1 p.0),
    across_pairs T h ls (each_map (λ u. Each (Q u) (v ∷ ls)) (λ u. Each (Q u) ls) (λ u e. e.1) ls q.1) p.1,
  )

-- ---- the records of an atlas: a live item's record has its row, and no row has two

module _ (l : Limits) (s : Shelf) where
  rows-apart_in : (r : ℕ) (is : List Item) → (r ∈ item_rows_of is → ⊥) → Each (λ u. r ≢ u.row) (flat (live_in l s) is)
  unfolding live_of
  rows-apart_in r [] out = tt
  rows-apart_in r (i ∷ is) out =
      each_append (λ u. r ≢ u.row) (live_in l s i) (flat (live_in l s) is) (one i.live) (rows-apart_in r is (λ m. out (List·Memᴰ·tail m))) where
        one : (b : Bool) → Each (λ u. r ≢ u.row) (pick b (live_of l s i ∷ []) [])
        one true = ((λ e. out (List·Memᴰ·head e)), tt)
        one false = tt

  abbrev record_of : Option (Focus Item) → List Live
  record_of none = []
  record_of (some w) = live_in l s w.this

  -- a look for a row finds the record of that row
  found_item : (r : ℕ) (before is : List Item) → Distinct (item_rows_of is) → record_of (find_item r before is) ≡ of_row r (flat (live_in l s) is)
  unfolding find_item live_of
  found_item r before [] d = refl
  found_item r before (i ∷ is) d = go (ℕ_discrete r i.row) (find_item r (i ∷ before) is) (found_item r (i ∷ before) is d.1) where
    here : (b : Bool) → of_row i.row (pick b (live_of l s i ∷ []) []) ≡ pick b (live_of l s i ∷ []) []
    here true = one_of_row (live_of l s i)
    here false = refl

    elsewhere : (b : Bool) → r ≢ i.row → of_row r (pick b (live_of l s i ∷ []) []) ≡ []
    elsewhere true n = rw (ne_eqb r i.row n)
    elsewhere false n = refl

    go : Dec (r ≡ i.row) → (later : Option (Focus Item)) → record_of later ≡ of_row r (flat (live_in l s) is)
        → record_of (pick (eqb r i.row) (some (record { before = before; this = i; after = is })) later) ≡ of_row r (live_in l s i ++ flat (live_in l s) is)
    go (yes e) later ih =
        rw (eq-eqb r i.row e)
        (sym (of_row-append r (live_in l s i) (flat (live_in l s) is) ∙ rw (none_of_row r (flat (live_in l s) is) (rows-apart_in r is (rw e d.0)), append-nil (of_row r (live_in l s i)), e, here i.live)))
    go (no n) later ih =
        rw (ne_eqb r i.row n) (ih ∙ sym (of_row-append r (live_in l s i) (flat (live_in l s) is) ∙ rw (elsewhere i.live n)))

module _ (l : Limits) where
  rows_apart : (r : ℕ) (ss : List Shelf) → (r ∈ all_item_rows ss → ⊥) → Each (λ u. r ≢ u.row) (flat (lives_on l) ss)
  rows_apart r [] out = tt
  rows_apart r (s ∷ ss) out =
      each_append (λ u. r ≢ u.row) (lives_on l s) (flat (lives_on l) ss) (rows-apart_in l s r s.items (λ m. out (Memᴰ·append-left (all_item_rows ss) m)))
      (rows_apart r ss (λ m. out (Memᴰ·append-right (item_rows_of s.items) m)))

  abbrev record_found : Option Found → List Live
  record_found none = []
  record_found (some w) = live_in l w.shelf.this w.item.this

  found_record : (r : ℕ) (before ss : List Shelf) → Distinct (all_item_rows ss) → record_found (find r before ss) ≡ of_row r (flat (lives_on l) ss)
  unfolding find
  found_record r before [] d = refl
  found_record r before (s ∷ ss) d =
      go (find_item r [] s.items) (find_item_lem r [] s.items) (found_item l s r [] s.items (distinct_left (item_rows_of s.items) (all_item_rows ss) d))
      (find r (s ∷ before) ss) (found_record r (s ∷ before) ss (distinct_right (item_rows_of s.items) (all_item_rows ss) d)) where
        go : (o : Option (Focus Item)) → FoundItem r s.items s.items o → record_of l s o ≡ of_row r (lives_on l s) → (later : Option Found) → record_found later ≡ of_row r (flat (lives_on l) ss)
            → record_found (elim o [ none ↦ later | some i ↦ some (record { shelf = record { before = before; this = s; after = ss }; item = i }) ]) ≡ of_row r (lives_on l s ++ flat (lives_on l) ss)
        go none f e later ih = ih ∙ sym (of_row-append r (lives_on l s) (flat (lives_on l) ss) ∙ rw (← e))
        go (some i) f e later ih =
            e ∙ sym (of_row-append r (lives_on l s) (flat (lives_on l) ss) ∙ rw (none_of_row r (flat (lives_on l) ss) (rows_apart r ss out), append-nil (of_row r (lives_on l s)))) where
              out : r ∈ all_item_rows ss → ⊥
              out m = distinct_apart (item_rows_of s.items) (all_item_rows ss) d r (rw (f.0, ← f.1) (in_onto (λ (j : Item). j.row ∷ []) i.this.row i.before (i.this ∷ i.after) (inr (List·Memᴰ·head refl)))) m

  -- no row has two records
  in_shelf_other : (s : Shelf) (is : List Item) → Distinct (item_rows_of is) → Pairs OtherRow (flat (live_in l s) is)
  unfolding live_of
  in_shelf_other s [] d = tt
  in_shelf_other s (i ∷ is) d = go i.live (rows-apart_in l s i.row is d.0) (in_shelf_other s is d.1) where
    go : (b : Bool) → Each (λ u. i.row ≢ u.row) (flat (live_in l s) is) → Pairs OtherRow (flat (live_in l s) is) → Pairs OtherRow (pick b (live_of l s i ∷ []) [] ++ flat (live_in l s) is)
    go true e ih = (e, ih)
    go false e ih = ih

  -- each record's row is one of its items'
  rows_of : (P : ℕ → Type 0) (s : Shelf) (is : List Item) → ((r : ℕ) → r ∈ item_rows_of is → P r) → Each (λ u. P u.row) (flat (live_in l s) is)
  unfolding live_of
  rows_of P s [] h = tt
  rows_of P s (i ∷ is) h = go i.live (rows_of P s is (λ r m. h r (List·Memᴰ·tail m))) where
    go : (b : Bool) → Each (λ u. P u.row) (flat (live_in l s) is) → Each (λ u. P u.row) (pick b (live_of l s i ∷ []) [] ++ flat (live_in l s) is)
    go true ih = (h i.row (List·Memᴰ·head refl), ih)
    go false ih = ih

  rows-within : (P : ℕ → Type 0) (ss : List Shelf) → ((r : ℕ) → r ∈ all_item_rows ss → P r) → Each (λ u. P u.row) (flat (lives_on l) ss)
  rows-within P [] h = tt
  rows-within P (s ∷ ss) h =
      each_append (λ u. P u.row) (lives_on l s) (flat (lives_on l) ss) (rows_of P s s.items (λ r m. h r (Memᴰ·append-left (all_item_rows ss) m)))
      (rows-within P ss (λ r m. h r (Memᴰ·append-right (item_rows_of s.items) m)))

  all_other : (ss : List Shelf) → Distinct (all_item_rows ss) → Pairs OtherRow (flat (lives_on l) ss)
  all_other [] d = tt
  all_other (s ∷ ss) d =
      pairs_append OtherRow (lives_on l s) (flat (lives_on l) ss) (in_shelf_other s s.items (distinct_left (item_rows_of s.items) (all_item_rows ss) d))
      (all_other ss (distinct_right (item_rows_of s.items) (all_item_rows ss) d))
      (rows_of (λ r. Each (λ v. r ≢ v.row) (flat (lives_on l) ss)) s s.items (λ r m. rows_apart r ss (distinct_apart (item_rows_of s.items) (all_item_rows ss) d r m)))

-- ---- what goes from one order to the other

each_of_row : (P : Live → Type 0) (r : ℕ) (ls : List Live) → Each P ls → Each (λ u. P u × (u.row ≡ r)) (of_row r ls)
each_of_row P r [] e = tt
each_of_row P r (u ∷ ls) e = go (eqb r u.row) refl (each_of_row P r ls e.1) where
  go : (b : Bool) → eqb r u.row ≡ b → Each (λ u. P u × (u.row ≡ r)) (of_row r ls) → Each (λ u. P u × (u.row ≡ r)) (pick b (u ∷ of_row r ls) (of_row r ls))
  go true t ih = ((e.0, sym (eqb-true r u.row t)), ih)
  go false t ih = ih

pub each_below : (P : Live → Type 0) (ls : List Live) (n : ℕ) → Each P ls → Each (λ u. P u × (u.row < n)) (below ls n)
each_below P ls zero e = tt
each_below P ls (suc n) e =
    each_append _ (below ls n) (of_row n ls) (each_map (λ u. P u × (u.row < n)) _ (λ u w. (w.0, omega (arith, w.1))) (below ls n) (each_below P ls n e))
    (each_map (λ u. P u × (u.row ≡ n)) _ (λ u w. (w.0, omega (arith, w.1))) (of_row n ls) (each_of_row P n ls e))

-- of one row there is at most one
row_once : (r : ℕ) (ls : List Live) → Pairs OtherRow ls → Pairs Rising (of_row r ls)
row_once r [] p = tt
row_once r (u ∷ ls) p = go (eqb r u.row) refl (row_once r ls p.1) where
  go : (b : Bool) → eqb r u.row ≡ b → Pairs Rising (of_row r ls) → Pairs Rising (pick b (u ∷ of_row r ls) (of_row r ls))
  go true t ih = rw (none_of_row r ls (each_map (λ v. u.row ≢ v.row) (λ v. r ≢ v.row) (λ v n e. n (sym (eqb-true r u.row t) ∙ e)) ls p.0)) (tt, tt)
  go false t ih = ih

pub below_rises : (ls : List Live) (n : ℕ) → Pairs OtherRow ls → Pairs Rising (below ls n)
below_rises ls zero p = tt
below_rises ls (suc n) p =
    let any : Each (λ u. Unit {0}) ls = each_any ls in
    pairs_append Rising (below ls n) (of_row n ls) (below_rises ls n p) (row_once n ls p)
    (each_map (λ u. Unit {0} × (u.row < n)) _ (λ u w. each_map (λ v. Unit {0} × (v.row ≡ n)) (Rising u) (λ v k. omega (arith, w.1, k.1)) (of_row n ls) (each_of_row _ n ls any)) (below ls n) (each_below _ ls n any)) where
      each_any : (ls : List Live) → Each (λ u. Unit {0}) ls
      each_any [] = tt
      each_any (u ∷ us) = (tt, each_any us)

-- past the last row there is nothing more
pub below_all : (ls : List Live) (m n : ℕ) → Each (λ u. u.row < m) ls → m ≤ n → below ls n ≡ below ls m
below_all ls m zero e h = let is : m ≡ 0 = omega arith in rw is
below_all ls m (suc n) e h = go (ℕ_discrete m (suc n)) (below_all ls m n e) where
  go : Dec (m ≡ suc n) → (m ≤ n → below ls n ≡ below ls m) → below ls n ++ of_row n ls ≡ below ls m
  go (yes is) ih = rw is
  go (no less) ih =
      let within : m ≤ n = omega arith in
      rw (none_of_row n ls (each_map (λ u. u.row < m) (λ u. n ≢ u.row) (λ u k q. omega arith) ls e), append-nil (below ls n)) (ih within)

-- one record more is one more by row too, where no other has its row
module _ (v : Live) (before after : List Live) (other : Each (λ u. v.row ≢ u.row) (before ++ after)) where
  not_its_row : (r : ℕ) → r ≢ v.row → of_row r (before ++ (v ∷ after)) ≡ of_row r (before ++ after)
  not_its_row r n = rw (of_row-append r before (v ∷ after), of_row-append r before after, ne_eqb r v.row n)

  its_row : of_row v.row (before ++ (v ∷ after)) ≡ v ∷ []
  its_row =
      let none_left : of_row v.row before ++ of_row v.row after ≡ [] = sym (of_row-append v.row before after) ∙ none_of_row v.row (before ++ after) other in
      of_row-append v.row before (v ∷ after) ∙ rw (eq-eqb v.row v.row refl) (alone (of_row v.row before) (of_row v.row after) none_left) where
        alone : (us ws : List Live) → us ++ ws ≡ [] → us ++ (v ∷ ws) ≡ v ∷ []
        alone [] ws e = rw e
        alone (u ∷ us) ws e = cc

  up_to_it : (n : ℕ) → n ≤ v.row → below (before ++ (v ∷ after)) n ≡ below (before ++ after) n
  up_to_it zero h = refl
  up_to_it (suc n) h = rw (up_to_it n (omega arith), not_its_row n (λ e. omega arith))

  past_it : (n : ℕ) → v.row < n → OneMore v (below (before ++ after) n) (below (before ++ (v ∷ after)) n)
  past_it zero h = absurd (omega arith)
  past_it (suc n) h = go (ℕ_discrete v.row n) (past_it n) where
    go : Dec (v.row ≡ n) → (v.row < n → OneMore v (below (before ++ after) n) (below (before ++ (v ∷ after)) n)) → OneMore v (below (before ++ after) (suc n)) (below (before ++ (v ∷ after)) (suc n))
    go (yes is) ih = record {
      before = below (before ++ after) n;
      after = [];
      less = rw (← is, none_of_row v.row (before ++ after) other);
      more = rw (up_to_it n (omega arith), ← is, its_row);
    }
    go (no other_row) ih =
        let o : OneMore v (below (before ++ after) n) (below (before ++ (v ∷ after)) n) = ih (omega arith) in
        record {
          before = o.before;
          after = o.after ++ of_row n (before ++ after);
          less = rw (o.less, append_assoc o.before o.after (of_row n (before ++ after)));
          more = rw (not_its_row n (λ e. other_row (sym e)), o.more, append_assoc o.before (v ∷ o.after) (of_row n (before ++ after)));
        }

pub one_more-below : (v : Live) (xs ys : List Live) (n : ℕ) → OneMore v xs ys → Each (λ u. v.row ≢ u.row) xs → v.row < n → OneMore v (below xs n) (below ys n)
one_more-below v xs ys n o other h = rw (o.less, o.more) (past_it v o.before o.after (rw o.less at other) n h)

-- ---- an atlas's list

-- what each has, the one at this place has; and those beside it have it too
pub each_there : {A : Type 0} (P : A → Type 0) (before : List A) (v : A) (after : List A) → Each P (before ++ (v ∷ after)) → P v × Each P (before ++ after)
each_there P [] v after e = e
each_there P (b ∷ before) v after e = let (there, beside) = each_there P before v after e.1 in (there, (e.0, beside))

-- the one at this place, and all those beside it
around : (v : Live) (before after : List Live) → Pairs OtherRow (before ++ (v ∷ after)) → Each (λ u. v.row ≢ u.row) (before ++ after)
around v [] after p = p.0
around v (u ∷ before) after p = ((λ e. (each_there (OtherRow u) before v after p.0).0 (sym e)), around v before after p.1)

pub nothing_below : (n : ℕ) → below [] n ≡ []
nothing_below zero = refl
nothing_below (suc n) = rw (nothing_below n)

areas_below : (ls : List Live) (n : ℕ) → Pairs OtherRow ls → Each (λ u. u.row < n) ls → areas (below ls n) ≡ areas ls
areas_below [] n p e = ap areas (nothing_below n)
areas_below (v ∷ ls) n p e =
    let one : OneMore v ls (v ∷ ls) = record { before = []; after = ls; less = refl; more = refl } in
    omega (arith, one_more-area v (below ls n) (below (v ∷ ls) n) (one_more-below v ls (v ∷ ls) n one p.0 e.0), areas_below ls n p.1 e.1)

module _ (room : Room) (a : Atlas) (formed : WellFormed room a) where
  lives_other : Pairs OtherRow (lives a)
  lives_other = all_other a.limits a.shelves formed.sound.item_rows.serving_once

  lives_used : Each (λ u. u.row < a.rows.items.used) (lives a)
  lives_used = rows-within a.limits (λ r. r < a.rows.items.used) a.shelves formed.sound.item_rows.serving_used

  rows-below : (n : ℕ) → lives_below a n ≡ below (lives a) n
  unfolding lives_below liveInRow
  rows-below zero = refl
  rows-below (suc n) = rw (rows-below n, shown (find n [] a.shelves) (found_record a.limits n [] a.shelves formed.sound.item_rows.serving_once)) where
    shown : (o : Option Found) → record_found a.limits o ≡ of_row n (lives a)
        → elim o as (λ o. List Live) [ none ↦ [] | some w ↦ pick w.item.this.live (live_of a.limits w.shelf.this w.item.this ∷ []) [] ] ≡ of_row n (lives a)
    shown none e = e
    shown (some w) e = e

  -- the list is the records of any number of rows that is large enough
  pub list_below : (n : ℕ) → a.rows.items.used ≤ n → list a ≡ below (lives a) n
  unfolding list
  list_below n h = rows-below a.rows.items.used ∙ sym (below_all (lives a) a.rows.items.used n lives_used h)

  pub list_rises : Pairs Rising (list a)
  list_rises = rw (list_below a.rows.items.used (omega arith)) (below_rises (lives a) a.rows.items.used lives_other)

  -- what each record has, each has in the list
  pub list_each : (P : Live → Type 0) → Each P (lives a) → Each P (list a)
  list_each P e =
      rw (list_below a.rows.items.used (omega arith)) (each_map _ P (λ u w. w.0) (below (lives a) a.rows.items.used) (each_below P (lives a) a.rows.items.used e))

  -- no two of the list share a pixel
  pub list_apart : Pairs NoPixelShared (list a)
  list_apart =
      let Differ : Live → Live → Type 0 = λ u w. OtherRow u w → NoPixelShared u w in
      let all : Across Differ (lives a) (lives a) =
      pairs_across NoPixelShared Differ (λ u n. absurd (n refl)) (λ u w h. ((λ _. h), (λ _ x y p q. h x y q p))) (lives a) (all_apart a formed.shaped) in
      across_pairs Rising Differ NoPixelShared (λ u w h r. h (λ e. omega arith)) (list a)
      (list_each (λ u. Each (Differ u) (list a)) (each_map (λ u. Each (Differ u) (lives a)) (λ u. Each (Differ u) (list a)) (λ u. list_each (Differ u)) (lives a) all)) list_rises

  -- their areas are those of all
  pub list_areas : areas (list a) ≡ areas (lives a)
  list_areas = rw (list_below a.rows.items.used (omega arith)) (areas_below (lives a) a.rows.items.used lives_other lives_used)

-- one record more in an atlas is one more in its list
pub list_one_more : (room room' : Room) (a a' : Atlas) (v : Live) → WellFormed room a → WellFormed room' a' → OneMore v (lives a) (lives a') → OneMore v (list a) (list a')
list_one_more room room' a a' v formed formed' o =
    let n : ℕ = a.rows.items.used + a'.rows.items.used in
    let v_used : v.row < a'.rows.items.used = (each_there _ o.before v o.after (rw o.more at (lives_used room' a' formed'))).0 in
    rw (list_below room a formed n (omega arith), list_below room' a' formed' n (omega arith))
    (one_more-below v (lives a) (lives a') n o (rw o.less (around v o.before o.after (rw o.more at (lives_other room' a' formed')))) (omega arith))
