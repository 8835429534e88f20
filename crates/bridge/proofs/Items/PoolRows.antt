-- A row taken out of a pool, of shelf rows or of item rows: it serves nowhere, it is there, the rows still freed are those that were freed
-- but it, and it is the row that the header and the table name. A row given back. Assumes nothing.
use Rattle.std.specs.Prelude.{◌<◌, ◌≤◌, ◌+◌, ◌-◌, ◌≡◌, ◌≢◌, ◌⊎◌, ◌∷◌}
use Rattle.numbers.specs.Library.{ℕ, refl, ap, ◌∙◌, inl, inr, ⊎_elim, List, [], List·Memᴰ·head, List·Memᴰ·tail}
use Rattle.numbers.specs.Library.{List·Memᴰ·not-nil, List·Memᴰ·cases-cons, ℕ_discrete, arith, length, ne_eqb}
use Rattle.numbers.specs.Prelude.{no_row}
use Rattle.chains.specs.Prelude.{◌∈◌, Distinct, gather, first_row, first_of, Chain}
use Rattle.chains.proofs.Prelude.{not_out, chain_any, self}
use Rattle.rows.specs.Prelude.{rows, get, rows_few, items, with_item_next, with_generation, shelves, with_shelf_next, with_used_items, with_used_shelves, with_free_items}
use Rattle.rows.specs.Prelude.{with_free_shelves}
use Rattle.pool.specs.Pool.{new_row as row_of, head_after, used_after, one_more_of, new_item, new_generation as generationOf, item_taken, new_shelf, shelf_taken}
use Rattle.pool.specs.Pool.{freed_item_row, freed_shelf_row}
use Rattle.pool.specs.PoolLaws.{one_more, new_freed, new_unused}
use Rattle.rows.specs.declared.header.Header.{Header}
use Rattle.rules.specs.Prelude.{Freed, Pool, new_row, new_generation, taken, rows_left_of, freed_item_of, freed_shelf, Shared}

-- ---- either pool; each proof has two cases, a freed row at hand or none

module _ {E : Type 0} (row : E → ℕ) where
  abbrev pub rows_in_of : List E → List ℕ
  rows_in_of = gather (λ e. row e ∷ [])

  abbrev pool : ℕ → List E → Pool E
  pool u fs = record { used = u; freed = fs }

  -- the row that is taken next serves nowhere, is there, and is none of the rows still freed
  pub record Fresh (room : ℕ) (serving : List ℕ) (p : Pool E) : Type 0 where
    pub out : new_row row p ∈ serving → ⊥
    pub there : new_row row p < room
    pub kept : (q : ℕ) → q ∈ rows_in_of (taken p).freed → (q ∈ rows_in_of p.freed) × (q ≢ new_row row p)
    pub in_room : (taken p).used ≤ room

  pub fresh : (room : ℕ) (serving : List ℕ) (p : Pool E) → p.used ≤ room → 0 < rows_left_of room p → Shared p.used serving (rows_in_of p.freed) → Fresh room serving p
  unfolding new_row taken rows_left_of
  fresh room serving p = go p.used p.freed where
    go : (u : ℕ) (fs : List E) → u ≤ room → 0 < (room - u) + length fs → Shared u serving (rows_in_of fs) → Fresh room serving (pool u fs)
    go u [] b left s = record {
      out = λ m. omega (arith, s.serving_used u m);
      there = omega arith;
      kept = λ q m. absurd (List·Memᴰ·not-nil m);
      in_room = omega arith;
    }
    go u (f ∷ fs) b left s =
        let x : (row f < u) × (¬ (row f ∈ serving)) = (s.freed_exactly (row f)).0 (List·Memᴰ·head refl) in
        record { out = x.1; there = omega arith; kept = λ q m. (List·Memᴰ·tail m, not_out s.freed_once.0 m); in_room = b }

  -- the row serves: no row serves twice, and the freed rows are the others
  pub taken_shared : (serving serving' : List ℕ) (p : Pool E) → Shared p.used serving (rows_in_of p.freed) → Distinct serving'
      → ((r : ℕ) → r ∈ serving' → (r ≡ new_row row p) ⊎ (r ∈ serving))
      → ((r : ℕ) → (r ≡ new_row row p) ⊎ (r ∈ serving) → r ∈ serving')
      → Shared (taken p).used serving' (rows_in_of (taken p).freed)
  unfolding new_row taken
  taken_shared serving serving' p = go p.used p.freed where
    go : (u : ℕ) (fs : List E) → Shared u serving (rows_in_of fs) → Distinct serving'
        → ((r : ℕ) → r ∈ serving' → (r ≡ new_row row (pool u fs)) ⊎ (r ∈ serving))
        → ((r : ℕ) → (r ≡ new_row row (pool u fs)) ⊎ (r ∈ serving) → r ∈ serving')
        → Shared (taken (pool u fs)).used serving' (rows_in_of (taken (pool u fs)).freed)
    go u [] s d to from = record {
      serving_once = d;
      serving_used = λ r m. ⊎_elim (λ e. omega arith) (λ k. omega (arith, s.serving_used r k)) (to r m);
      freed_once = tt;
      freed_exactly = λ r. (λ m. absurd (List·Memᴰ·not-nil m), λ x. let n : r ≢ u = (λ e. x.1 (from r (inl e))) in (s.freed_exactly r).1 (omega arith, λ m. x.1 (from r (inr m))));
    }
    go u (f ∷ fs) s d to from = record {
      serving_once = d;
      serving_used = λ r m. ⊎_elim (λ e. rw e ((s.freed_exactly (row f)).0 (List·Memᴰ·head refl)).0) (s.serving_used r) (to r m);
      freed_once = s.freed_once.1;
      freed_exactly = λ r. (
        λ m.
            let x : (r < u) × (¬ (r ∈ serving)) = (s.freed_exactly r).0 (List·Memᴰ·tail m) in
            (x.0, λ k. ⊎_elim (not_out s.freed_once.0 m) x.1 (to r k)),
        λ x. ⊎_elim (λ e. absurd (x.1 (from r (inl e)))) (λ m. m) (List·Memᴰ·cases-cons ((s.freed_exactly r).1 (x.0, λ m. x.1 (from r (inr m))))),
      );
    }

  -- what is left of the freed chain; a freed row says nothing of the row before it
  pub taken_chain : {C : Type 0} (says : E → ℕ → C) (at : ℕ → C) (p : Pool E) → Chain (record { row = row; says = λ prev e next. says e next }) at no_row p.freed
      → Chain (record { row = row; says = λ prev e next. says e next }) at no_row (taken p).freed
  unfolding taken
  taken_chain says at p = go p.freed where
    go : (fs : List E) → Chain (record { row = row; says = λ prev e next. says e next }) at no_row fs
        → Chain (record { row = row; says = λ prev e next. says e next }) at no_row (taken (pool p.used fs)).freed
    go [] c = tt
    go (f ∷ fs) c = chain_any (record { row = row; says = λ prev e next. says e next }) (λ x y e n. refl) at (row f) no_row fs c.1

  -- The head of the freed chain and the count of used rows as the header holds them, and the row that the head names as next: with them
  -- the code takes that row, and leaves the head and the count of the pool that is left.
  pub record Named (head used next : ℕ) (p : Pool E) : Type 0 where
    pub row_taken : row_of head used ≡ new_row row p
    pub head_after_lem : head_after head next ≡ first_row row (taken p).freed
    pub used_after_lem : used_after head used ≡ (taken p).used

  pub named : (room : ℕ) (serving : List ℕ) (p : Pool E) (head used next : ℕ) → room ≤ 65535 → p.used ≤ room → 0 < rows_left_of room p → Shared p.used serving (rows_in_of p.freed)
      → head ≡ first_row row p.freed → used ≡ p.used → ((f : E) (fs : List E) → p.freed ≡ f ∷ fs → next ≡ first_row row fs)
      → Named head used next p
  unfolding new_row taken rows_left_of
  named room serving p head used next few = go p.used p.freed where
    go : (u : ℕ) (fs : List E) → u ≤ room → 0 < (room - u) + length fs → Shared u serving (rows_in_of fs)
        → head ≡ first_row row fs → used ≡ u → ((g : E) (gs : List E) → fs ≡ g ∷ gs → next ≡ first_row row gs) → Named head used next (pool u fs)
    go u [] b left s e q n =
        let (r, h, c) = new_unused head used next e in
        let m : used < 65535 = omega arith in
        record { row_taken = r ∙ q; head_after_lem = h ∙ e; used_after_lem = c ∙ one_more used m ∙ ap (λ (k : ℕ). k + 1) q }
    go u (f ∷ fs) b left s e q n =
        let x : (row f < u) × (¬ (row f ∈ serving)) = (s.freed_exactly (row f)).0 (List·Memᴰ·head refl) in
        let (r, h, c) = new_freed head used next (omega arith) in
        record { row_taken = r ∙ e; head_after_lem = h ∙ n f fs refl; used_after_lem = c ∙ q }

-- a row that served is freed
pub freed_shared : (used : ℕ) (serving serving' freed : List ℕ) (x : ℕ) → Shared used serving freed → x ∈ serving → Distinct serving'
    → ((r : ℕ) → r ∈ serving' → (r ∈ serving) × (r ≢ x)) → ((r : ℕ) → r ∈ serving → r ≢ x → r ∈ serving') → Shared used serving' (x ∷ freed)
freed_shared used serving serving' freed x s m d to from = record {
  serving_once = d;
  serving_used = λ r k. s.serving_used r (to r k).0;
  freed_once = (λ k. ((s.freed_exactly x).0 k).1 m, s.freed_once);
  freed_exactly = λ r. (
    λ k. ⊎_elim
        (λ e. (omega (arith, s.serving_used x m), λ q. (to r q).1 e))
        (λ q. (((s.freed_exactly r).0 q).0, λ w. ((s.freed_exactly r).0 q).1 (to r w).0))
        (List·Memᴰ·cases-cons k),
    λ y. go r y (ℕ_discrete r x),
  );
} where
  go : (r : ℕ) → (r < used) × (¬ (r ∈ serving')) → Dec (r ≡ x) → r ∈ (x ∷ freed)
  go r y (yes e) = List·Memᴰ·head e
  go r y (no n) = List·Memᴰ·tail ((s.freed_exactly r).1 (y.0, λ k. y.1 (from r k n)))

-- ---- item rows

abbrev pub freed_row : Freed → ℕ
freed_row f = f.row

-- the header with the used rows and the head of a pool of item rows
abbrev pub with_pool : Pool Freed → Header → Header
with_pool p h = with_used_items p.used (with_free_items (record { 0 = first_row freed_row p.freed }) h)

module _ (I : List ℕ) (h : Header) (serving : List ℕ) (p : Pool Freed)
    (head : h.free_items.0 ≡ first_row freed_row p.freed) (used : h.used_items ≡ p.used)
    (room : p.used ≤ rows items I) (left : 0 < rows_left_of (rows items I) p)
    (shared : Shared p.used serving (rows_in_of freed_row p.freed)) (chain : Chain freed_item_of (get items I) no_row p.freed) where
  freed_next : (f : Freed) (fs : List Freed) → p.freed ≡ f ∷ fs → (get items I h.free_items.0).next.0 ≡ first_row freed_row fs
  unfolding freed_item_row with_item_next
  freed_next f fs e =
      let c : Chain freed_item_of (get items I) no_row (f ∷ fs) = rw e at chain in
      let q : h.free_items.0 ≡ f.row = rw e at head in
      rw (q, c.0)

  item_named : Named freed_row h.free_items.0 h.used_items (get items I h.free_items.0).next.0 p
  item_named = named freed_row (rows items I) serving p _ _ _ (rows_few items I) room left shared head used freed_next

  -- the row that the code takes, and its generation
  pub item_new : new_item h ≡ record { 0 = new_row freed_row p }
  unfolding new_item
  item_new = rw item_named.row_taken

  pub item_generation : generationOf I h ≡ new_generation p
  unfolding generationOf new_generation one_more_of freed_item_row with_item_next with_generation
  item_generation = go p.freed head chain (λ f m. omega (arith, rows_few items I, ((shared.freed_exactly f).0 m).0)) where
    go : (fs : List Freed) → h.free_items.0 ≡ first_row freed_row fs → Chain freed_item_of (get items I) no_row fs → ((r : ℕ) → r ∈ rows_in_of freed_row fs → r ≢ no_row)
        → generationOf I h ≡ new_generation (record { used = p.used; freed = fs })
    go [] e c n = rw e
    go (f ∷ fs) e c n = rw (e, ne_eqb f.row no_row (n f.row (List·Memᴰ·head refl)), c.0)

  -- the header that it leaves
  pub item_header : item_taken I h ≡ with_pool (taken p) h
  unfolding item_taken
  item_header = rw (item_named.used_after_lem, item_named.head_after_lem)

-- ---- shelf rows, which are themselves the elements of their pool

abbrev pub shelf_row_of : ℕ → ℕ
shelf_row_of r = r

pub shelf_fresh : (room : ℕ) (serving : List ℕ) (p : Pool ℕ) → p.used ≤ room → 0 < rows_left_of room p → Shared p.used serving p.freed → Fresh shelf_row_of room serving p
shelf_fresh room serving p b left s = fresh shelf_row_of room serving p b left (rw self s)

pub shelf_shared : (serving serving' : List ℕ) (p : Pool ℕ) → Shared p.used serving p.freed → Distinct serving'
    → ((r : ℕ) → r ∈ serving' → (r ≡ new_row shelf_row_of p) ⊎ (r ∈ serving))
    → ((r : ℕ) → (r ≡ new_row shelf_row_of p) ⊎ (r ∈ serving) → r ∈ serving')
    → Shared (taken p).used serving' (taken p).freed
shelf_shared serving serving' p s d to from = rw self at (taken_shared shelf_row_of serving serving' p (rw self s) d to from)

module _ (S : List ℕ) (h : Header) (serving : List ℕ) (p : Pool ℕ)
    (head : h.free_shelves.0 ≡ first_of p.freed) (used : h.used_shelves ≡ p.used)
    (room : p.used ≤ rows shelves S) (left : 0 < rows_left_of (rows shelves S) p)
    (shared : Shared p.used serving p.freed) (chain : Chain freed_shelf (get shelves S) no_row p.freed) where
  freed_below : (f : ℕ) (fs : List ℕ) → p.freed ≡ f ∷ fs → (get shelves S h.free_shelves.0).next.0 ≡ first_of fs
  unfolding freed_shelf_row with_shelf_next
  freed_below f fs e =
      let c : Chain freed_shelf (get shelves S) no_row (f ∷ fs) = rw e at chain in
      let q : h.free_shelves.0 ≡ f = rw e at head in
      rw (q, c.0)

  shelf_named : Named shelf_row_of h.free_shelves.0 h.used_shelves (get shelves S h.free_shelves.0).next.0 p
  shelf_named = named shelf_row_of (rows shelves S) serving p _ _ _ (rows_few shelves S) room left (rw self shared) head used freed_below

  pub shelf_new : new_shelf h ≡ record { 0 = new_row shelf_row_of p }
  unfolding new_shelf
  shelf_new = rw shelf_named.row_taken

  pub shelf_header : shelf_taken S h ≡ with_used_shelves (taken p).used (with_free_shelves (record { 0 = first_of (taken p).freed }) h)
  unfolding shelf_taken
  shelf_header = rw (shelf_named.used_after_lem, shelf_named.head_after_lem)
