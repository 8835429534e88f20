-- Chains over any kind: a chain splits at an element and joins again, what leaves its rows alone leaves it alone, and its neighbours can be linked anew.
-- Assumes nothing.
use Rattle.std.specs.Prelude.{◌≡◌, ◌≢◌, ◌⊎◌, ◌∷◌}
use Rattle.numbers.specs.Library.{ℕ, refl, ap, ◌∙◌, inl, inr, ⊎_elim, List, [], List·Memᴰ·head, List·Memᴰ·tail, List·Memᴰ·not-nil}
use Rattle.numbers.specs.Library.{List·Memᴰ·append-cases, Memᴰ·append-left, Memᴰ·append-right}
use Rattle.numbers.specs.Prelude.{no_row}
use Rattle.chains.specs.Prelude.{Kind, first_row, Chain, ◌∈◌, Distinct, Apart, Each, gather, back_onto}
use Rattle.chains.proofs.Lists.{not_out, distinct_append, distinct_left, distinct_right, distinct_apart}

-- ---- the rows of a list around a place in it

module _ {E : Type 0} (f : E → List ℕ) where
  pub onto_apart : (bs ys : List E) → Distinct (gather f (back_onto bs ys)) → Distinct (gather f bs) × Distinct (gather f ys) × Apart (gather f bs) (gather f ys)
  onto_apart [] ys d = (tt, d, λ r m k. List·Memᴰ·not-nil m)
  onto_apart (b ∷ bs) ys d =
      let (db, dy, a) = onto_apart bs (b ∷ ys) d in (
        distinct_append (f b) (gather f bs) (distinct_left (f b) (gather f ys) dy) db (λ r m k. a r k (Memᴰ·append-left (gather f ys) m)),
        distinct_right (f b) (gather f ys) dy,
        λ r m k. ⊎_elim (λ q. distinct_apart (f b) (gather f ys) dy r q k) (λ q. a r q (Memᴰ·append-right (f b) k)) (List·Memᴰ·append-cases (f b) m),
      )

  pub apart_onto : (bs ys : List E) → Distinct (gather f bs) → Distinct (gather f ys) → Apart (gather f bs) (gather f ys) → Distinct (gather f (back_onto bs ys))
  apart_onto [] ys db dy a = dy
  apart_onto (b ∷ bs) ys db dy a =
      apart_onto bs (b ∷ ys) (distinct_right (f b) (gather f bs) db)
      (distinct_append (f b) (gather f ys) (distinct_left (f b) (gather f bs) db) dy (λ r m k. a r (Memᴰ·append-left (gather f bs) m) k))
      (λ r m k. ⊎_elim (λ q. distinct_apart (f b) (gather f bs) db r q m) (λ q. a r (Memᴰ·append-right (f b) m) q) (List·Memᴰ·append-cases (f b) k))

  pub in_onto : (r : ℕ) (bs ys : List E) → (r ∈ gather f bs) ⊎ (r ∈ gather f ys) → r ∈ gather f (back_onto bs ys)
  in_onto r [] ys o = ⊎_elim (λ m. absurd (List·Memᴰ·not-nil m)) (λ m. m) o
  in_onto r (b ∷ bs) ys o =
      in_onto r bs (b ∷ ys)
      (⊎_elim
      (λ m. ⊎_elim (λ q. inr (Memᴰ·append-left (gather f ys) q)) (λ q. inl q) (List·Memᴰ·append-cases (f b) m))
      (λ m. inr (Memᴰ·append-right (f b) m))
      o)

  pub onto_in : (r : ℕ) (bs ys : List E) → r ∈ gather f (back_onto bs ys) → (r ∈ gather f bs) ⊎ (r ∈ gather f ys)
  onto_in r [] ys m = inr m
  onto_in r (b ∷ bs) ys m =
      ⊎_elim
      (λ q. inl (Memᴰ·append-right (f b) q))
      (λ q. ⊎_elim (λ w. inl (Memᴰ·append-left (gather f bs) w)) (λ w. inr w) (List·Memᴰ·append-cases (f b) q))
      (onto_in r bs (b ∷ ys) m)

  pub gather_onto : (bs ys zs : List E) → gather f ys ≡ gather f zs → gather f (back_onto bs ys) ≡ gather f (back_onto bs zs)
  gather_onto [] ys zs e = e
  gather_onto (b ∷ bs) ys zs e = gather_onto bs (b ∷ ys) (b ∷ zs) (rw e)

  pub onto_map : (r : ℕ) (bs us vs : List E) → (r ∈ gather f us → r ∈ gather f vs) → r ∈ gather f (back_onto bs us) → r ∈ gather f (back_onto bs vs)
  onto_map r bs us vs h m = in_onto r bs vs (⊎_elim (λ k. inl k) (λ k. inr (h k)) (onto_in r bs us m))

  -- fewer rows of each element
  pub within : (g : E → List ℕ) → ((e : E) (r : ℕ) → r ∈ f e → r ∈ g e) → (xs : List E) (r : ℕ) → r ∈ gather f xs → r ∈ gather g xs
  within g h [] r m = m
  within g h (x ∷ xs) r m =
      ⊎_elim (λ q. Memᴰ·append-left (gather g xs) (h x r q)) (λ q. Memᴰ·append-right (g x) (within g h xs r q)) (List·Memᴰ·append-cases (f x) m)

-- two parts of each element's rows that have none in common, of rows that stand once
pub parts_apart : {E : Type 0} (f g all : E → List ℕ) → ((e : E) (r : ℕ) → r ∈ f e → r ∈ all e) → ((e : E) (r : ℕ) → r ∈ g e → r ∈ all e)
    → ((e : E) → Apart (f e) (g e)) → (xs : List E) → Distinct (gather all xs) → Apart (gather f xs) (gather g xs)
parts_apart f g all hf hg a [] d r m k = List·Memᴰ·not-nil m
parts_apart f g all hf hg a (x ∷ xs) d r m k =
    let between : Apart (all x) (gather all xs) = distinct_apart (all x) (gather all xs) d in
    ⊎_elim
    (λ p. ⊎_elim (a x r p) (λ q. between r (hf x r p) (within g all hg xs r q)) (List·Memᴰ·append-cases (g x) k))
    (λ p. ⊎_elim (λ q. between r (hg x r q) (within f all hf xs r p)) (parts_apart f g all hf hg a xs (distinct_right (all x) (gather all xs) d) r p) (List·Memᴰ·append-cases (g x) k))
    (List·Memᴰ·append-cases (f x) m)

-- a list of rows is its own rows
pub self : (l : List ℕ) → gather (λ r. r ∷ []) l ≡ l
self [] = refl
self (r ∷ l) = rw (self l)

-- ---- each element

module _ {E : Type 0} (P : E → Type 0) where
  pub each_split : (bs ys : List E) → Each P (back_onto bs ys) → Each P bs × Each P ys
  each_split [] ys e = (tt, e)
  each_split (b ∷ bs) ys e = let (eb, ey) = each_split bs (b ∷ ys) e in ((ey.0, eb), ey.1)

  pub each_join : (bs ys : List E) → Each P bs → Each P ys → Each P (back_onto bs ys)
  each_join [] ys eb ey = ey
  each_join (b ∷ bs) ys eb ey = each_join bs (b ∷ ys) eb.1 (eb.0, ey)

-- where what P asks of an element rests on its rows alone
pub each_frame : {E : Type 0} (f : E → List ℕ) (P Q : E → Type 0) (xs : List E)
    → ((e : E) → ((r : ℕ) → r ∈ f e → r ∈ gather f xs) → P e → Q e) → Each P xs → Each Q xs
each_frame f P Q [] h e = tt
each_frame f P Q (x ∷ xs) h e =
    (h x (λ r m. Memᴰ·append-left (gather f xs) m) e.0, each_frame f P Q xs (λ y k. h y (λ r m. Memᴰ·append-right (f x) (k r m))) e.1)

-- ---- chains

module _ {E C : Type 0} (k : Kind E C) where
  abbrev pub rows_of : List E → List ℕ
  rows_of = gather (λ e. k.row e ∷ [])

  -- the elements before a place, the nearest first, lie in a table in which the place's row is n
  abbrev pub Before : (ℕ → C) → List E → ℕ → Type 0
  Before at [] n = Unit {0}
  Before at (b ∷ bs) n = (at (k.row b) ≡ k.says (first_row k.row bs) b n) × Before at bs (k.row b)

  pub chain_split : (at : ℕ → C) (bs ys : List E) → Chain k at no_row (back_onto bs ys) → Before at bs (first_row k.row ys) × Chain k at (first_row k.row bs) ys
  chain_split at [] ys c = (tt, c)
  chain_split at (b ∷ bs) ys c = let (cb, cy) = chain_split at bs (b ∷ ys) c in ((cy.0, cb), cy.1)

  pub chain_join : (at : ℕ → C) (bs ys : List E) → Before at bs (first_row k.row ys) → Chain k at (first_row k.row bs) ys → Chain k at no_row (back_onto bs ys)
  chain_join at [] ys cb cy = cy
  chain_join at (b ∷ bs) ys cb cy = chain_join at bs (b ∷ ys) cb.1 (cb.0, cy)

  -- the first row rests on what stands before a place and on the row there
  pub first_onto : (bs : List E) (y z : E) (ys zs : List E) → k.row y ≡ k.row z → first_row k.row (back_onto bs (y ∷ ys)) ≡ first_row k.row (back_onto bs (z ∷ zs))
  first_onto [] y z ys zs e = e
  first_onto (b ∷ bs) y z ys zs e = first_onto bs b b (y ∷ ys) (z ∷ zs) refl

  pub ne_first : (xs : List E) (r : ℕ) → r ≢ no_row → (r ∈ rows_of xs → ⊥) → r ≢ first_row k.row xs
  ne_first [] r n out = n
  ne_first (x ∷ xs) r n out = λ e. out (List·Memᴰ·head e)

  pub first_in : (b : E) (bs ys : List E) → first_row k.row (back_onto bs (b ∷ ys)) ∈ rows_of (b ∷ bs)
  first_in b [] ys = List·Memᴰ·head refl
  first_in b (c ∷ bs) ys = List·Memᴰ·tail (first_in c bs (b ∷ ys))

  -- a kind that says nothing of the row before
  pub chain_any : ((p q : ℕ) (e : E) (n : ℕ) → k.says p e n ≡ k.says q e n) → (at : ℕ → C) (p q : ℕ) (xs : List E) → Chain k at p xs → Chain k at q xs
  chain_any h at p q [] c = tt
  chain_any h at p q (x ∷ xs) c = (c.0 ∙ h p q x (first_row k.row xs), c.1)

  module _ (at at' : ℕ → C) where
    pub chain_frame : (p : ℕ) (xs : List E) → ((r : ℕ) → r ∈ rows_of xs → at' r ≡ at r) → Chain k at p xs → Chain k at' p xs
    chain_frame p [] h c = tt
    chain_frame p (x ∷ xs) h c = (h (k.row x) (List·Memᴰ·head refl) ∙ c.0, chain_frame (k.row x) xs (λ r m. h r (List·Memᴰ·tail m)) c.1)

    pub before_frame : (n : ℕ) (bs : List E) → ((r : ℕ) → r ∈ rows_of bs → at' r ≡ at r) → Before at bs n → Before at' bs n
    before_frame n [] h c = tt
    before_frame n (b ∷ bs) h c = (h (k.row b) (List·Memᴰ·head refl) ∙ c.0, before_frame (k.row b) bs (λ r m. h r (List·Memᴰ·tail m)) c.1)

    -- the first element after a place is given another row before it, and no other row changes
    pub relink_after : (p q : ℕ) (f : C → C) → ((e : E) (n : ℕ) → f (k.says p e n) ≡ k.says q e n) → (xs : List E) → Distinct (rows_of xs)
        → ((r : ℕ) → r ∈ rows_of xs → r ≡ first_row k.row xs → at' r ≡ f (at r))
        → ((r : ℕ) → r ∈ rows_of xs → r ≢ first_row k.row xs → at' r ≡ at r)
        → Chain k at p xs → Chain k at' q xs
    relink_after p q f law [] d hit same c = tt
    relink_after p q f law (x ∷ xs) d hit same c = (
      hit (k.row x) (List·Memᴰ·head refl) refl ∙ ap f c.0 ∙ law x (first_row k.row xs),
      chain_frame (k.row x) xs (λ r m. same r (List·Memᴰ·tail m) (not_out d.0 m)) c.1,
    )

    -- the nearest element before a place is given another row after it, and no other row changes
    pub relink_before : (m n : ℕ) (f : C → C) → ((p : ℕ) (e : E) → f (k.says p e m) ≡ k.says p e n) → (bs : List E) → Distinct (rows_of bs)
        → ((r : ℕ) → r ∈ rows_of bs → r ≡ first_row k.row bs → at' r ≡ f (at r))
        → ((r : ℕ) → r ∈ rows_of bs → r ≢ first_row k.row bs → at' r ≡ at r)
        → Before at bs m → Before at' bs n
    relink_before m n f law [] d hit same c = tt
    relink_before m n f law (b ∷ bs) d hit same c = (
      hit (k.row b) (List·Memᴰ·head refl) refl ∙ ap f c.0 ∙ law (first_row k.row bs) b,
      before_frame (k.row b) bs (λ r w. same r (List·Memᴰ·tail w) (not_out d.0 w)) c.1,
    )

    -- an element replaced by another in the same row
    pub chain_replace : (bs : List E) (e e' : E) (ys : List E) → k.row e' ≡ k.row e → Distinct (rows_of (back_onto bs (e ∷ ys)))
        → ((r : ℕ) → r ∈ rows_of (back_onto bs (e ∷ ys)) → r ≢ k.row e → at' r ≡ at r)
        → (at (k.row e) ≡ k.says (first_row k.row bs) e (first_row k.row ys) → at' (k.row e) ≡ k.says (first_row k.row bs) e' (first_row k.row ys))
        → Chain k at no_row (back_onto bs (e ∷ ys)) → Chain k at' no_row (back_onto bs (e' ∷ ys))
    chain_replace bs e e' ys q d same here c =
        let (cb, cy) = chain_split at bs (e ∷ ys) c in
        let (db, dy, apart) = onto_apart (λ x. k.row x ∷ []) bs (e ∷ ys) d in
        chain_join at' bs (e' ∷ ys)
        (rw q (before_frame (k.row e) bs (λ r m. same r (in_onto (λ x. k.row x ∷ []) r bs (e ∷ ys) (inl m)) (λ w. apart r m (List·Memᴰ·head w))) cb))
        (rw q (here cy.0), rw q (chain_frame (k.row e) ys (λ r m. same r (in_onto (λ x. k.row x ∷ []) r bs (e ∷ ys) (inr (List·Memᴰ·tail m))) (not_out dy.0 m)) cy.1))
