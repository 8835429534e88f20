-- The items of one shelf: rule 3 at the rows that are met, and the items read from those rows. Assumes nothing.
use Rattle.std.specs.Prelude.{◌≤◌, ◌%◌, ◌≡◌, ◌&&◌, ◌∷◌}
use Rattle.numbers.specs.Library.{ℕ, refl, sym, ap, ◌∙◌, false, not, List, [], map, arith, eqb}
use mathlib.Core.Bool.{not-not}
use Rattle.numbers.specs.Prelude.{no_row, along_step}
use Rattle.rows.specs.Prelude.{get, items, Body, body_of}
use Rattle.rows.specs.declared.header.Header.{Header}
use Rattle.chains.specs.Prelude.{Neighbours, Chain, Ends, Holds}
use Rattle.chains.proofs.Prelude.{holds_view}
use Rattle.rules.specs.Prelude.{Item, item, Filled, NotBothFree, item_next, item_in_of, Along, ItemRight, along}
use Rattle.laws.proofs.Stored.Flags.{flag_read, flag_most}
use Rattle.laws.proofs.Stored.Follow.{chain_map}

module _ (h : Header) (I : List ℕ) (on : ℕ) where
  abbrev Right : Along → ℕ → Type 0
  Right d r = ItemRight h on d (get items I r)

  abbrev over : Along → ℕ → Along
  over d r = along d r (get items I r)

  abbrev body : ℕ → Body
  body r = body_of (get items I r)

  -- ---- from the rows to the items

  item_says : (d : Along) (r : ℕ) → Right d r → body r ≡ (item on).says d.prev (item_in_of I r) (item_next I r)
  unfolding body_of item_in_of
  item_says d r o = λ z. record {
    x = (get items I r).x;
    width = (get items I r).width;
    prev = o.back z;
    next = item_next I r;
    shelf = o.named z;
    allocated = sym (flag_read (get items I r).allocated o.flag_right) z;
    generation = (get items I r).generation;
  }

  pub items_chain : (used end : ℕ) (d : Along) (l : List ℕ) → Ends (item_next I) used l → Holds Right over (λ d. d.x ≡ end) d l
      → Chain (item on) body d.prev (map (item_in_of I) l)
  unfolding item_in_of along
  items_chain used end d l e w =
      chain_map (item on) body (item_next I) used (item_in_of I) (λ r. refl) d.prev l e
      (holds_view Right over (λ d. d.x ≡ end) (λ p r. body r ≡ (item on).says p (item_in_of I r) (item_next I r)) (λ p r. r) (λ p. Unit {0}) (λ d. d.prev)
      (λ d r. refl) (λ d g. tt) d l (λ d r m. item_says d r) w)

  pub items_filled : (end : ℕ) (d : Along) (l : List ℕ) → Holds Right over (λ d. d.x ≡ end) d l → Filled h.limits d.x end (map (item_in_of I) l)
  unfolding Filled item_in_of along
  items_filled end d [] w = w
  items_filled end d (r ∷ l) w = (w.0.at_x, w.0.some_width, w.0.aligned, items_filled end (over d r) l w.1)

  free_pair : (r q : ℕ) → (eqb (get items I r).allocated 0 && eqb (get items I q).allocated 0) ≡ (not (item_in_of I r).live && not (item_in_of I q).live)
  unfolding item_in_of
  free_pair r q = cc (not-not (eqb (get items I r).allocated 0), not-not (eqb (get items I q).allocated 0))

  pub items_apart : (end : ℕ) (d : Along) (l : List ℕ) → Holds Right over (λ d. d.x ≡ end) d l → Neighbours NotBothFree (map (item_in_of I) l)
  unfolding item_in_of along
  items_apart end d [] w = tt
  items_apart end d (r ∷ []) w = tt
  items_apart end d (r ∷ q ∷ l) w = (sym (free_pair r q) ∙ w.1.0.apart, items_apart end (over d r) (q ∷ l) w.1)

  -- ---- from the items to the rows

  pub item_names : (i : Item) (p n : ℕ) → body i.row ≡ (item on).says p i n → item_next I i.row ≡ n
  unfolding body_of
  item_names i p n e = ap (λ (b : Body). b.next) e

  item_right : (d : Along) (r n : ℕ) → body r ≡ (item on).says d.prev (item_in_of I r) n → ((get items I r).x ≡ d.x) → (1 ≤ (get items I r).width)
      → ((get items I r).width % along_step h.limits ≡ 0) → ((d.after_free && eqb (get items I r).allocated 0) ≡ false) → Right d r
  unfolding body_of item_in_of
  item_right d r n e x w m a = record {
    back = ap (λ (b : Body). b.prev) e;
    named = ap (λ (b : Body). b.shelf) e;
    at_x = x;
    some_width = w;
    aligned = m;
    flag_right = omega (arith, flag_most (not (eqb (get items I r).allocated 0)), ap (λ (b : Body). b.allocated) e);
    apart = a;
  }

  -- no free item adjoins where the walk has come to
  abbrev ApartFrom : Along → List ℕ → Type 0
  ApartFrom d [] = Unit {0}
  ApartFrom d (r ∷ l) = (d.after_free && eqb (get items I r).allocated 0) ≡ false

  apart_from : (d : Along) (r : ℕ) (l : List ℕ) → Neighbours NotBothFree (map (item_in_of I) (r ∷ l)) → ApartFrom (over d r) l × Neighbours NotBothFree (map (item_in_of I) l)
  unfolding along item_in_of
  apart_from d r [] n = (tt, tt)
  apart_from d r (q ∷ l) n = (free_pair r q ∙ n.0, n.1)

  from_items : (end : ℕ) (d : Along) (l : List ℕ) → Chain (item on) body d.prev (map (item_in_of I) l) → Filled h.limits d.x end (map (item_in_of I) l)
      → ApartFrom d l → Neighbours NotBothFree (map (item_in_of I) l) → Holds Right over (λ d. d.x ≡ end) d l
  unfolding Filled item_in_of along
  from_items end d [] c f a n = f
  from_items end d (r ∷ l) c f a n =
      let (a', n') = apart_from d r l n in (
        item_right d r _ c.0 f.0 f.1 f.2 a,
        from_items end (over d r) l c.1 f.3 a' n',
      )

  pub items_hold : (end x : ℕ) (l : List ℕ) → Chain (item on) body no_row (map (item_in_of I) l) → Filled h.limits x end (map (item_in_of I) l) → Neighbours NotBothFree (map (item_in_of I) l)
      → Holds Right over (λ d. d.x ≡ end) (record { prev = no_row; x = x; after_free = false }) l
  items_hold end x l c f n = from_items end (record { prev = no_row; x = x; after_free = false }) l c f (at_left l) n
    where
      at_left : (l : List ℕ) → ApartFrom (record { prev = no_row; x = x; after_free = false }) l
      at_left [] = tt
      at_left (r ∷ l) = refl
