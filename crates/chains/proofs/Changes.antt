-- The changes of a chain at one place, over any kind: an element inserted after another, merged into the one before it, taken out, put in another's
-- place. Each asks what the table says afterwards of the rows that it touches, and that it says the same of all others. Assumes nothing.
use Rattle.std.specs.Prelude.{◌≡◌, ◌≢◌, ◌⊎◌, ◌∷◌, ◌++◌}
use Rattle.numbers.specs.Library.{ℕ, refl, sym, inl, inr, ⊎_elim, List, [], List·Memᴰ·head, List·Memᴰ·tail, List·Memᴰ·cases-cons}
use Rattle.numbers.specs.Library.{List·Memᴰ·append-cases, Memᴰ·cast, Memᴰ·append-left, Memᴰ·append-right}
use Rattle.numbers.specs.Prelude.{no_row}
use Rattle.chains.specs.Prelude.{Kind, first_row, Chain, ◌∈◌, Distinct, gather, back_onto}
use Rattle.chains.proofs.Lists.{not_out, distinct_append, distinct_left, distinct_right, distinct_apart}
use Rattle.chains.proofs.Chains.{onto_apart, apart_onto, in_onto, onto_in, rows_of, Before, chain_split, chain_join, before_frame, relink_after}
use Rattle.chains.proofs.Chains.{relink_before, ne_first}

module _ {E C : Type 0} (k : Kind E C) (at at' : ℕ → C) where
  abbrev only_row : E → List ℕ
  only_row e = k.row e ∷ []

  -- n after e, which becomes e'
  pub chain_insert : (bs : List E) (e e' n : E) (ys : List E) → k.row e' ≡ k.row e
      → Distinct (rows_of k (back_onto bs (e ∷ ys))) → ((r : ℕ) → r ∈ rows_of k (back_onto bs (e ∷ ys)) → r ≢ no_row)
      → (f : C → C) → ((x : E) (m : ℕ) → f (k.says (k.row e) x m) ≡ k.says (k.row n) x m)
      → ((r : ℕ) → r ∈ rows_of k (back_onto bs (e ∷ ys)) → r ≢ k.row e → r ≢ first_row k.row ys → at' r ≡ at r)
      → ((r : ℕ) → r ∈ rows_of k (back_onto bs (e ∷ ys)) → r ≢ k.row e → r ≡ first_row k.row ys → at' r ≡ f (at r))
      → (at (k.row e) ≡ k.says (first_row k.row bs) e (first_row k.row ys) → k.row e ≢ first_row k.row ys
      → (at' (k.row e) ≡ k.says (first_row k.row bs) e' (k.row n)) × (at' (k.row n) ≡ k.says (k.row e) n (first_row k.row ys)))
      → Chain k at no_row (back_onto bs (e ∷ ys)) → Chain k at' no_row (back_onto bs (e' ∷ n ∷ ys))
  chain_insert bs e e' n ys q d nn f law same next here c =
      let (cb, cy) = chain_split k at bs (e ∷ ys) c in
      let (db, dy, apart) = onto_apart only_row bs (e ∷ ys) d in
      let b_in : (r : ℕ) → r ∈ rows_of k bs → r ∈ rows_of k (back_onto bs (e ∷ ys)) = λ r m. in_onto only_row r bs (e ∷ ys) (inl m) in
      let y_in : (r : ℕ) → r ∈ rows_of k (e ∷ ys) → r ∈ rows_of k (back_onto bs (e ∷ ys)) = λ r m. in_onto only_row r bs (e ∷ ys) (inr m) in
      let (h, hn) = here cy.0 (ne_first k ys (k.row e) (nn (k.row e) (y_in (k.row e) (List·Memᴰ·head refl))) dy.0) in
      chain_join k at' bs (e' ∷ n ∷ ys)
      (rw q (before_frame k at at' (k.row e) bs
      (λ r m. same r (b_in r m) (λ w. apart r m (List·Memᴰ·head w)) (ne_first k ys r (nn r (b_in r m)) (λ w. apart r m (List·Memᴰ·tail w)))) cb)) (
        rw q h,
        (
          rw q hn,
          relink_after k at at' (k.row e) (k.row n) f law ys dy.1
              (λ r m w. next r (y_in r (List·Memᴰ·tail m)) (not_out dy.0 m) w)
              (λ r m w. same r (y_in r (List·Memᴰ·tail m)) (not_out dy.0 m) w)
              cy.1,
        ),
      )

  -- s, which follows e, merged into e, which becomes e'
  pub chain_drop : (bs : List E) (e e' s : E) (ys : List E) → k.row e' ≡ k.row e
      → Distinct (rows_of k (back_onto bs (e ∷ s ∷ ys))) → ((r : ℕ) → r ∈ rows_of k (back_onto bs (e ∷ s ∷ ys)) → r ≢ no_row)
      → (f : C → C) → ((x : E) (m : ℕ) → f (k.says (k.row s) x m) ≡ k.says (k.row e) x m)
      → ((r : ℕ) → r ∈ rows_of k (back_onto bs (e ∷ s ∷ ys)) → r ≢ k.row e → r ≢ k.row s → r ≢ first_row k.row ys → at' r ≡ at r)
      → ((r : ℕ) → r ∈ rows_of k (back_onto bs (e ∷ s ∷ ys)) → r ≢ k.row e → r ≢ k.row s → r ≡ first_row k.row ys → at' r ≡ f (at r))
      → (at (k.row e) ≡ k.says (first_row k.row bs) e (k.row s) → at (k.row s) ≡ k.says (k.row e) s (first_row k.row ys) → k.row e ≢ k.row s → k.row e ≢ first_row k.row ys
      → at' (k.row e) ≡ k.says (first_row k.row bs) e' (first_row k.row ys))
      → Chain k at no_row (back_onto bs (e ∷ s ∷ ys)) → Chain k at' no_row (back_onto bs (e' ∷ ys))
  chain_drop bs e e' s ys q d nn f law same next here c =
      let (cb, cy) = chain_split k at bs (e ∷ s ∷ ys) c in
      let (db, dy, apart) = onto_apart only_row bs (e ∷ s ∷ ys) d in
      let b_in : (r : ℕ) → r ∈ rows_of k bs → r ∈ rows_of k (back_onto bs (e ∷ s ∷ ys)) = λ r m. in_onto only_row r bs (e ∷ s ∷ ys) (inl m) in
      let y_in : (r : ℕ) → r ∈ rows_of k (e ∷ s ∷ ys) → r ∈ rows_of k (back_onto bs (e ∷ s ∷ ys)) = λ r m. in_onto only_row r bs (e ∷ s ∷ ys) (inr m) in
      let ne_e : (r : ℕ) → r ∈ rows_of k ys → r ≢ k.row e = λ r m. not_out dy.0 (List·Memᴰ·tail m) in
      let h : at' (k.row e) ≡ k.says (first_row k.row bs) e' (first_row k.row ys) =
      here cy.0 cy.1.0 (λ w. dy.0 (List·Memᴰ·head w)) (ne_first k ys (k.row e) (nn (k.row e) (y_in (k.row e) (List·Memᴰ·head refl))) (λ w. dy.0 (List·Memᴰ·tail w))) in
      chain_join k at' bs (e' ∷ ys)
      (rw q (before_frame k at at' (k.row e) bs
      (λ r m. same r (b_in r m) (λ w. apart r m (List·Memᴰ·head w)) (λ w. apart r m (List·Memᴰ·tail (List·Memᴰ·head w)))
      (ne_first k ys r (nn r (b_in r m)) (λ w. apart r m (List·Memᴰ·tail (List·Memᴰ·tail w))))) cb)) (
        rw q h,
        rw q (relink_after k at at' (k.row s) (k.row e) f law ys dy.1.1
            (λ r m w. next r (y_in r (List·Memᴰ·tail (List·Memᴰ·tail m))) (ne_e r m) (not_out dy.1.0 m) w)
            (λ r m w. same r (y_in r (List·Memᴰ·tail (List·Memᴰ·tail m))) (ne_e r m) (not_out dy.1.0 m) w)
            cy.1.1),
      )

  -- e taken out: what stood before it and after it is linked to p and q, which are each other or a new row between them
  module _ (bs : List E) (e : E) (ys : List E) (p q : ℕ)
      (d : Distinct (rows_of k (back_onto bs (e ∷ ys)))) (nn : (r : ℕ) → r ∈ rows_of k (back_onto bs (e ∷ ys)) → r ≢ no_row)
      (g f : C → C) (law-g : (m : ℕ) (x : E) → g (k.says m x (k.row e)) ≡ k.says m x q) (law-f : (x : E) (m : ℕ) → f (k.says (k.row e) x m) ≡ k.says p x m)
      (same : (r : ℕ) → r ∈ rows_of k (back_onto bs (e ∷ ys)) → r ≢ k.row e → r ≢ first_row k.row bs → r ≢ first_row k.row ys → at' r ≡ at r)
      (prev : (r : ℕ) → r ∈ rows_of k (back_onto bs (e ∷ ys)) → r ≢ k.row e → r ≡ first_row k.row bs → r ≢ first_row k.row ys → at' r ≡ g (at r))
      (next : (r : ℕ) → r ∈ rows_of k (back_onto bs (e ∷ ys)) → r ≢ k.row e → r ≢ first_row k.row bs → r ≡ first_row k.row ys → at' r ≡ f (at r)) where
    apart_ends : Before k at bs (k.row e) → Chain k at (k.row e) ys → Before k at' bs q × Chain k at' p ys
    apart_ends cb cy =
        let (db, dy, apart) = onto_apart only_row bs (e ∷ ys) d in
        let b_in : (r : ℕ) → r ∈ rows_of k bs → r ∈ rows_of k (back_onto bs (e ∷ ys)) = λ r m. in_onto only_row r bs (e ∷ ys) (inl m) in
        let y_in : (r : ℕ) → r ∈ rows_of k ys → r ∈ rows_of k (back_onto bs (e ∷ ys)) = λ r m. in_onto only_row r bs (e ∷ ys) (inr (List·Memᴰ·tail m)) in
        let b_e : (r : ℕ) → r ∈ rows_of k bs → r ≢ k.row e = λ r m w. apart r m (List·Memᴰ·head w) in
        let b_y : (r : ℕ) → r ∈ rows_of k bs → r ≢ first_row k.row ys = λ r m. ne_first k ys r (nn r (b_in r m)) (λ w. apart r m (List·Memᴰ·tail w)) in
        let y_b : (r : ℕ) → r ∈ rows_of k ys → r ≢ first_row k.row bs = λ r m. ne_first k bs r (nn r (y_in r m)) (λ w. apart r w (List·Memᴰ·tail m)) in (
          relink_before k at at' (k.row e) q g law-g bs db (λ r m w. prev r (b_in r m) (b_e r m) w (b_y r m)) (λ r m w. same r (b_in r m) (b_e r m) w (b_y r m)) cb,
          relink_after k at at' (k.row e) p f law-f ys dy.1 (λ r m w. next r (y_in r m) (not_out dy.0 m) (y_b r m) w) (λ r m w. same r (y_in r m) (not_out dy.0 m) (y_b r m) w) cy,
        )

  -- e taken out
  pub chain_remove : (bs : List E) (e : E) (ys : List E)
      → Distinct (rows_of k (back_onto bs (e ∷ ys))) → ((r : ℕ) → r ∈ rows_of k (back_onto bs (e ∷ ys)) → r ≢ no_row)
      → (g f : C → C) → ((m : ℕ) (x : E) → g (k.says m x (k.row e)) ≡ k.says m x (first_row k.row ys)) → ((x : E) (m : ℕ) → f (k.says (k.row e) x m) ≡ k.says (first_row k.row bs) x m)
      → ((r : ℕ) → r ∈ rows_of k (back_onto bs (e ∷ ys)) → r ≢ k.row e → r ≢ first_row k.row bs → r ≢ first_row k.row ys → at' r ≡ at r)
      → ((r : ℕ) → r ∈ rows_of k (back_onto bs (e ∷ ys)) → r ≢ k.row e → r ≡ first_row k.row bs → r ≢ first_row k.row ys → at' r ≡ g (at r))
      → ((r : ℕ) → r ∈ rows_of k (back_onto bs (e ∷ ys)) → r ≢ k.row e → r ≢ first_row k.row bs → r ≡ first_row k.row ys → at' r ≡ f (at r))
      → Chain k at no_row (back_onto bs (e ∷ ys)) → Chain k at' no_row (back_onto bs ys)
  chain_remove bs e ys d nn g f lg lf same prev next c =
      let (cb, cy) = chain_split k at bs (e ∷ ys) c in
      let (nb, ny) = apart_ends bs e ys (first_row k.row bs) (first_row k.row ys) d nn g f lg lf same prev next cb cy.1 in
      chain_join k at' bs ys nb ny

  -- n put in the place of e
  pub chain_swap : (bs : List E) (e n : E) (ys : List E)
      → Distinct (rows_of k (back_onto bs (e ∷ ys))) → ((r : ℕ) → r ∈ rows_of k (back_onto bs (e ∷ ys)) → r ≢ no_row)
      → (g f : C → C) → ((m : ℕ) (x : E) → g (k.says m x (k.row e)) ≡ k.says m x (k.row n)) → ((x : E) (m : ℕ) → f (k.says (k.row e) x m) ≡ k.says (k.row n) x m)
      → ((r : ℕ) → r ∈ rows_of k (back_onto bs (e ∷ ys)) → r ≢ k.row e → r ≢ first_row k.row bs → r ≢ first_row k.row ys → at' r ≡ at r)
      → ((r : ℕ) → r ∈ rows_of k (back_onto bs (e ∷ ys)) → r ≢ k.row e → r ≡ first_row k.row bs → r ≢ first_row k.row ys → at' r ≡ g (at r))
      → ((r : ℕ) → r ∈ rows_of k (back_onto bs (e ∷ ys)) → r ≢ k.row e → r ≢ first_row k.row bs → r ≡ first_row k.row ys → at' r ≡ f (at r))
      → (at (k.row e) ≡ k.says (first_row k.row bs) e (first_row k.row ys) → at' (k.row n) ≡ k.says (first_row k.row bs) n (first_row k.row ys))
      → Chain k at no_row (back_onto bs (e ∷ ys)) → Chain k at' no_row (back_onto bs (n ∷ ys))
  chain_swap bs e n ys d nn g f lg lf same prev next here c =
      let (cb, cy) = chain_split k at bs (e ∷ ys) c in
      let (nb, ny) = apart_ends bs e ys (k.row n) (k.row n) d nn g f lg lf same prev next cb cy.1 in
      chain_join k at' bs (n ∷ ys) nb (here cy.0, ny)

-- ---- the rows

module _ {E : Type 0} (f : E → List ℕ) where
  -- e becomes e', with the same rows, and n follows it
  pub rows_insert : (bs : List E) (e e' n : E) (ys : List E) (x : ℕ) → f e' ≡ f e → f n ≡ x ∷ [] → Distinct (gather f (back_onto bs (e ∷ ys))) → (x ∈ gather f (back_onto bs (e ∷ ys)) → ⊥)
      → Distinct (gather f (back_onto bs (e' ∷ n ∷ ys)))
      × ((r : ℕ) → r ∈ gather f (back_onto bs (e' ∷ n ∷ ys)) → (r ≡ x) ⊎ (r ∈ gather f (back_onto bs (e ∷ ys))))
      × ((r : ℕ) → (r ≡ x) ⊎ (r ∈ gather f (back_onto bs (e ∷ ys))) → r ∈ gather f (back_onto bs (e' ∷ n ∷ ys)))
  rows_insert bs e e' n ys x q qn d out =
      let (db, dy, apart) = onto_apart f bs (e ∷ ys) d in
      let b_in : (r : ℕ) → r ∈ gather f bs → r ∈ gather f (back_onto bs (e ∷ ys)) = λ r m. in_onto f r bs (e ∷ ys) (inl m) in
      let y_in : (r : ℕ) → r ∈ gather f (e ∷ ys) → r ∈ gather f (back_onto bs (e ∷ ys)) = λ r m. in_onto f r bs (e ∷ ys) (inr m) in
      let to : (r : ℕ) → r ∈ gather f (e' ∷ n ∷ ys) → (r ≡ x) ⊎ (r ∈ gather f (e ∷ ys)) = λ r m.
      ⊎_elim
      (λ w. inr (Memᴰ·append-left (gather f ys) w))
      (λ w. ⊎_elim (λ z. inl z) (λ z. inr (Memᴰ·append-right (f e) z)) (List·Memᴰ·cases-cons w))
      (List·Memᴰ·append-cases (f e) (rw (q, qn) at m)) in (
        apart_onto f bs (e' ∷ n ∷ ys) db
            (rw (q, qn) (distinct_append (f e) (x ∷ gather f ys) (distinct_left (f e) (gather f ys) dy) (λ m. out (y_in x (Memᴰ·append-right (f e) m)), distinct_right (f e) (gather f ys) dy)
            (λ r m w. ⊎_elim (λ z. out (Memᴰ·cast (sym z) (y_in r (Memᴰ·append-left (gather f ys) m)))) (λ z. distinct_apart (f e) (gather f ys) dy r m z) (List·Memᴰ·cases-cons w))))
            (λ r m w. ⊎_elim (λ z. out (Memᴰ·cast (sym z) (b_in r m))) (λ z. apart r m z) (to r w)),
        λ r m. ⊎_elim (λ w. inr (b_in r w)) (λ w. ⊎_elim (λ z. inl z) (λ z. inr (y_in r z)) (to r w)) (onto_in f r bs (e' ∷ n ∷ ys) m),
        λ r o. in_onto f r bs (e' ∷ n ∷ ys)
            (⊎_elim
            (λ z. inr (rw (q, qn) (Memᴰ·append-right (f e) (List·Memᴰ·head z))))
            (λ m. ⊎_elim
            (λ w. inl w)
            (λ w. inr (rw (q, qn) (⊎_elim (λ z. Memᴰ·append-left (x ∷ gather f ys) z) (λ z. Memᴰ·append-right (f e) (List·Memᴰ·tail z)) (List·Memᴰ·append-cases (f e) w))))
            (onto_in f r bs (e ∷ ys) m))
            o),
      )

  -- e becomes e', with the same rows, and s, which follows it, goes
  pub rows_drop : (bs : List E) (e e' s : E) (ys : List E) (x : ℕ) → f e' ≡ f e → f s ≡ x ∷ [] → Distinct (gather f (back_onto bs (e ∷ s ∷ ys)))
      → Distinct (gather f (back_onto bs (e' ∷ ys)))
      × (x ∈ gather f (back_onto bs (e ∷ s ∷ ys)))
      × ((r : ℕ) → r ∈ gather f (back_onto bs (e' ∷ ys)) → (r ∈ gather f (back_onto bs (e ∷ s ∷ ys))) × (r ≢ x))
      × ((r : ℕ) → r ∈ gather f (back_onto bs (e ∷ s ∷ ys)) → r ≢ x → r ∈ gather f (back_onto bs (e' ∷ ys)))
  rows_drop bs e e' s ys x q qs d =
      let (db, dy₀, apart) = onto_apart f bs (e ∷ s ∷ ys) d in
      let dy : Distinct (f e ++ x ∷ gather f ys) = rw qs at dy₀ in
      let dx : Distinct (x ∷ gather f ys) = distinct_right (f e) (x ∷ gather f ys) dy in
      let x_in : x ∈ gather f (e ∷ s ∷ ys) = rw qs (Memᴰ·append-right (f e) (List·Memᴰ·head refl)) in
      let to : (r : ℕ) → r ∈ gather f (e' ∷ ys) → (r ∈ gather f (e ∷ s ∷ ys)) × (r ≢ x) = λ r m.
      ⊎_elim
      (λ w. (Memᴰ·append-left (gather f (s ∷ ys)) w, λ z. distinct_apart (f e) (x ∷ gather f ys) dy r w (List·Memᴰ·head z)))
      (λ w. (rw qs (Memᴰ·append-right (f e) (List·Memᴰ·tail w)), not_out dx.0 w))
      (List·Memᴰ·append-cases (f e) (rw q at m)) in
      let from : (r : ℕ) → r ≢ x → r ∈ gather f (e ∷ s ∷ ys) → r ∈ gather f (e' ∷ ys) = λ r n w.
      rw q (⊎_elim
      (λ z. Memᴰ·append-left (gather f ys) z)
      (λ z. Memᴰ·append-right (f e) (⊎_elim (λ u. absurd (n u)) (λ u. u) (List·Memᴰ·cases-cons z)))
      (List·Memᴰ·append-cases (f e) (rw qs at w))) in (
        apart_onto f bs (e' ∷ ys) db
            (rw q (distinct_append (f e) (gather f ys) (distinct_left (f e) (x ∷ gather f ys) dy) dx.1 (λ r m w. distinct_apart (f e) (x ∷ gather f ys) dy r m (List·Memᴰ·tail w))))
            (λ r m w. apart r m (to r w).0),
        in_onto f x bs (e ∷ s ∷ ys) (inr x_in),
        (λ r m. ⊎_elim
            (λ w. (in_onto f r bs (e ∷ s ∷ ys) (inl w), λ z. apart r w (Memᴰ·cast z x_in)))
            (λ w. (in_onto f r bs (e ∷ s ∷ ys) (inr (to r w).0), (to r w).1))
            (onto_in f r bs (e' ∷ ys) m)),
        λ r m n. in_onto f r bs (e' ∷ ys)
            (⊎_elim
            (λ w. inl w)
            (λ w. inr (from r n w))
            (onto_in f r bs (e ∷ s ∷ ys) m)),
      )
