-- The shelf chain: rule 2 at the rows that are met, and the shelves read from those rows. Assumes nothing.
use Rattle.std.specs.Prelude.{◌+◌, ◌*◌, ◌≤◌, ◌≡◌, ◌&&◌, ◌∷◌}
use Rattle.numbers.specs.Library.{ℕ, refl, sym, ap, ◌∙◌, Bool, true, false, and-false, List, [], map, List·Memᴰ·head}
use Rattle.numbers.specs.Library.{List·Memᴰ·tail, arith, eqb, lt-ltb, le-ltb, eq-eqb, ne_eqb}
use mathlib.Core.Bool.{not-not, and-true}
use Rattle.numbers.specs.Prelude.{no_row, pick, pick_ap, pick_same}
use Rattle.rows.specs.Prelude.{get, shelves}
use Rattle.rows.specs.declared.{header.Header.Header, shelf.ShelfRow.ShelfRow}
use Rattle.chains.specs.Prelude.{◌∈◌, ◌iff◌, Neighbours, first_of, Chain, Ends, Holds}
use Rattle.chains.proofs.Prelude.{holds_view}
use Rattle.rules.specs.Prelude.{Shelf, is_empty_of, joins, flag, shelf, Stacked, NotBothEmpty, shelf_next, item_next, items_met, free_met, item_in_of, shelf_in, Down}
use Rattle.rules.specs.Prelude.{one_free_of, ShelfRight, down, at_top_of, AllColumns}
use Rattle.laws.proofs.Stored.Lists.{first_map}
use Rattle.rules.proofs.Flags.{flag_one}
use Rattle.laws.proofs.Stored.Follow.{chain_map}

-- "its first item is a used row, free, with no next", of rows that end: the items read from them are one free item
pub one_free : (h : Header) (I l : List ℕ) → h.used_items ≤ no_row → Ends (item_next I) h.used_items l → one_free_of h I (first_of l) ≡ is_empty_of (map (item_in_of I) l)
unfolding one_free_of is_empty_of item_in_of
one_free h I [] few e = rw (le-ltb no_row h.used_items few)
one_free h I (r ∷ []) few e =
    rw (lt-ltb r h.used_items e.0, eq-eqb (item_next I r) no_row e.1, and-true, not-not)
one_free h I (r ∷ q ∷ l) few e =
    rw (ne_eqb (item_next I r) no_row (λ z. omega (arith, e.1, e.2.0)), and-false)

-- where the next shelf stands in the same column or heads the next one, the walk's "under an empty shelf" is the pair's "empty, in one column"
column_pair : (b : Bool) (p y n n' c w x x' : ℕ) (e e' : Bool)
    → let d : Down = pick b (record { prev = p; column = c + 1; y = 0; under_empty = false }) (record { prev = p; column = c; y = y; under_empty = eqb n 1 }) in
    1 ≤ w → x ≡ c * w → x' ≡ d.column * w → eqb n 1 ≡ e → eqb n' 1 ≡ e' → (d.under_empty && eqb n' 1 ≡ false) iff (e && e' && eqb x x' ≡ false)
column_pair true p y n n' c w x x' e e' s q q' f f' = ((λ z. rw (ne_eqb x x' (λ u. omega arith), and-false)), λ z. refl)
column_pair false p y n n' c w x x' e e' s q q' f f' =
    rw (eq-eqb x x' (q ∙ sym q'), and-true, f, f') ((λ z. z), λ z. z)

-- a column's end turns the walk and the shelves' own rule alike
turn : (b : Bool) (T : ℕ → ℕ → Type 0) (u v : Down) → T (pick b u v).column (pick b u v).y → pick b (T u.column u.y) (T v.column v.y)
turn true T u v t = t
turn false T u v t = t

unturn : (b : Bool) (T : ℕ → ℕ → Type 0) (u v : Down) → pick b (T u.column u.y) (T v.column v.y) → T (pick b u v).column (pick b u v).y
unturn true T u v t = t
unturn false T u v t = t

module _ (h : Header) (S I : List ℕ) where
  abbrev row : ℕ → ShelfRow
  row r = get shelves S r

  abbrev Right : Down → ℕ → Type 0
  Right d r = ShelfRight h I d (row r)

  abbrev over : Down → ℕ → Down
  over d r = down h d r (row r)

  over_prev : (d : Down) (r : ℕ) → (over d r).prev ≡ r
  unfolding down
  over_prev d r = pick_ap (λ (d : Down). d.prev) (eqb (d.y + (row r).height) h.limits.height) _ _ ∙ pick_same (eqb (d.y + (row r).height) h.limits.height) r r refl

  -- what a shelf row says of its items is what is met there
  pub record Heads (r : ℕ) : Type 0 where
    pub first_item : (row r).first_item.0 ≡ first_of (items_met h S I r)
    pub first_free : (row r).first_unallocated.0 ≡ first_of (free_met h S I r)
    pub empty : one_free_of h I (row r).first_item.0 ≡ is_empty_of (shelf_in h S I r).items

  abbrev EmptyRight : ℕ → Type 0
  EmptyRight r = (row r).is_empty ≡ flag (is_empty_of (shelf_in h S I r).items)

  empty_read : (r : ℕ) → EmptyRight r → eqb (row r).is_empty 1 ≡ is_empty_of (shelf_in h S I r).items
  empty_read r e = rw e (flag_one (is_empty_of (shelf_in h S I r).items))

  -- no two empty shelves adjoin in a column, as the walk sees it and as the two shelves
  pair : (d : Down) (r q : ℕ) → 1 ≤ h.limits.shelf_width → (row r).x ≡ d.column * h.limits.shelf_width → (row q).x ≡ (over d r).column * h.limits.shelf_width
      → EmptyRight r → EmptyRight q → ((over d r).under_empty && eqb (row q).is_empty 1 ≡ false) iff (joins (shelf_in h S I r) (shelf_in h S I q) ≡ false)
  unfolding joins shelf_in down
  pair d r q s x x' e e' =
      column_pair (eqb (d.y + (row r).height) h.limits.height) r (d.y + (row r).height) (row r).is_empty (row q).is_empty d.column h.limits.shelf_width (row r).x (row q).x
      _ _ s x x' (empty_read r e) (empty_read q e')

  -- ---- from the rows to the shelves

  empty_right : (d : Down) (r : ℕ) → Heads r → Right d r → EmptyRight r
  empty_right d r k o = o.flag_right ∙ ap flag k.empty

  shelf_says : (d : Down) (r : ℕ) → Heads r → Right d r → row r ≡ shelf.says d.prev (shelf_in h S I r) (shelf_next S r)
  unfolding shelf_in item_in_of
  shelf_says d r k o = λ z. record {
    x = (row r).x;
    y = (row r).y;
    height = (row r).height;
    prev = record { 0 = o.back z };
    next = (row r).next;
    first_item = record { 0 = (k.first_item ∙ sym (first_map (λ i. i.row) (item_in_of I) (λ q. refl) (items_met h S I r))) z };
    first_unallocated = record { 0 = k.first_free z };
    is_empty = empty_right d r k o z;
  }

  pub shelves_chain : (d : Down) (l : List ℕ) → ((r : ℕ) → r ∈ l → Heads r) → Ends (shelf_next S) h.used_shelves l → Holds Right over (AllColumns h) d l
      → Chain shelf row d.prev (map (shelf_in h S I) l)
  unfolding shelf_in down
  shelves_chain d l k e w =
      chain_map shelf row (shelf_next S) h.used_shelves (shelf_in h S I) (λ r. refl) d.prev l e
      (holds_view Right over (AllColumns h) (λ p r. row r ≡ shelf.says p (shelf_in h S I r) (shelf_next S r)) (λ p r. r) (λ p. Unit {0}) (λ d. d.prev)
      over_prev (λ d g. tt) d l (λ d r m. shelf_says d r (k r m)) w)

  pub shelves_stacked : (d : Down) (l : List ℕ) → Holds Right over (AllColumns h) d l → Stacked h.limits d.column d.y (map (shelf_in h S I) l)
  unfolding Stacked shelf_in down
  shelves_stacked d [] w = w
  shelves_stacked d (r ∷ l) w = (
    w.0.at_column,
    w.0.at_depth,
    w.0.some_depth,
    w.0.in_column,
    turn (eqb (d.y + (row r).height) h.limits.height) (λ c y. Stacked h.limits c y (map (shelf_in h S I) l)) _ _ (shelves_stacked (over d r) l w.1),
  )

  pub shelves_apart : (d : Down) (l : List ℕ) → 1 ≤ h.limits.shelf_width → ((r : ℕ) → r ∈ l → Heads r) → Holds Right over (AllColumns h) d l
      → Neighbours NotBothEmpty (map (shelf_in h S I) l)
  shelves_apart d [] s k w = tt
  shelves_apart d (r ∷ []) s k w = tt
  shelves_apart d (r ∷ q ∷ l) s k w =
      let m : q ∈ r ∷ q ∷ l = List·Memᴰ·tail (List·Memᴰ·head refl) in (
        (pair d r q s w.0.at_column w.1.0.at_column (empty_right d r (k r (List·Memᴰ·head refl)) w.0) (empty_right (over d r) q (k q m) w.1.0)).0 w.1.0.apart,
        shelves_apart (over d r) (q ∷ l) s (λ x y. k x (List·Memᴰ·tail y)) w.1,
      )

  -- ---- from the shelves to the rows

  -- no empty shelf adjoins where the walk has come to
  abbrev ApartFrom : Down → List ℕ → Type 0
  ApartFrom d [] = Unit {0}
  ApartFrom d (r ∷ l) = (d.under_empty && eqb (row r).is_empty 1) ≡ false

  pub shelf_names : (s : Shelf) (p n : ℕ) → row s.row ≡ shelf.says p s n → shelf_next S s.row ≡ n
  shelf_names s p n e = ap (λ (q : ShelfRow). q.next.0) e

  said_empty : (r p n : ℕ) → row r ≡ shelf.says p (shelf_in h S I r) n → EmptyRight r
  said_empty r p n e = ap (λ (s : ShelfRow). s.is_empty) e

  apart_from : (d : Down) (r : ℕ) (l : List ℕ) → 1 ≤ h.limits.shelf_width → (row r).x ≡ d.column * h.limits.shelf_width → EmptyRight r → Chain shelf row r (map (shelf_in h S I) l)
      → Stacked h.limits (over d r).column (over d r).y (map (shelf_in h S I) l) → Neighbours NotBothEmpty (map (shelf_in h S I) (r ∷ l))
      → ApartFrom (over d r) l × Neighbours NotBothEmpty (map (shelf_in h S I) l)
  unfolding Stacked shelf_in
  apart_from d r [] s x e c t n = (tt, tt)
  apart_from d r (q ∷ l) s x e c t n = ((pair d r q s x t.0 e (said_empty q r _ c.0)).1 n.0, n.1)

  from_shelves : (d : Down) (l : List ℕ) → 1 ≤ h.limits.shelf_width → ((r : ℕ) → r ∈ l → Heads r) → Chain shelf row d.prev (map (shelf_in h S I) l)
      → Stacked h.limits d.column d.y (map (shelf_in h S I) l) → ApartFrom d l → Neighbours NotBothEmpty (map (shelf_in h S I) l) → Holds Right over (AllColumns h) d l
  unfolding Stacked shelf_in down
  from_shelves d [] s k c t a n = t
  from_shelves d (r ∷ l) s k c t a n =
      let e : EmptyRight r = said_empty r d.prev _ c.0 in
      let t' : Stacked h.limits (over d r).column (over d r).y (map (shelf_in h S I) l) =
      unturn (eqb (d.y + (row r).height) h.limits.height) (λ c y. Stacked h.limits c y (map (shelf_in h S I) l)) _ _ t.4 in
      let (a', n') = apart_from d r l s t.0 e c.1 t' n in (
        record {
          back = ap (λ (s : ShelfRow). s.prev.0) c.0;
          at_column = t.0;
          at_depth = t.1;
          some_depth = t.2;
          in_column = t.3;
          flag_right = e ∙ ap flag (sym (k r (List·Memᴰ·head refl)).empty);
          apart = a;
        },
        from_shelves (over d r) l s (λ q m. k q (List·Memᴰ·tail m)) (rw (over_prev d r) c.1) t' a' n',
      )

  pub shelves_hold : (l : List ℕ) → 1 ≤ h.limits.shelf_width → ((r : ℕ) → r ∈ l → Heads r) → Chain shelf row no_row (map (shelf_in h S I) l)
      → Stacked h.limits 0 0 (map (shelf_in h S I) l) → Neighbours NotBothEmpty (map (shelf_in h S I) l) → Holds Right over (AllColumns h) at_top_of l
  shelves_hold l s k c t n = from_shelves at_top_of l s k c t (at_top l) n
    where
      at_top : (l : List ℕ) → ApartFrom at_top_of l
      at_top [] = tt
      at_top (r ∷ l) = refl
