-- The free list of one shelf: rule 5 at the rows that are met, and the list as it lies in the table. Assumes nothing.
use Rattle.std.specs.Prelude.{◌<◌, ◌≡◌, ◌∷◌, ◌≢◌}
use Rattle.numbers.specs.Library.{ℕ, refl, ap, Bool, true, false, not, List, [], map, List·Memᴰ·head, List·Memᴰ·not-nil}
use Rattle.numbers.specs.Library.{List·Memᴰ·eq-of-singleton, eqb, eqb-true, ne_eqb, not-true, not-false}
use borrow.Author.Tests.{eqb-false}
use Rattle.numbers.specs.Prelude.{pick}
use Rattle.rows.specs.Prelude.{get, items, Links, links_of}
use Rattle.chains.specs.Prelude.{◌∈◌, Distinct, gather, Chain, Ends}
use Rattle.chains.proofs.Prelude.{self, gather_in, in_gather, gather_distinct}
use Rattle.rules.specs.Prelude.{Item, free, live_rows, free_rows, free_next, item_in_of}
use Rattle.laws.proofs.Stored.Lists.{gather_map}
use Rattle.laws.proofs.Stored.Follow.{Back, chain_ends}

-- ---- the free items and the live ones, among the items that are met

abbrev kept : Bool → ℕ → List ℕ
kept b r = pick b [] (r ∷ [])

kept_in : (b : Bool) (r x : ℕ) → x ∈ kept b r → (x ≡ r) × (b ≡ false)
kept_in true r x m = absurd (List·Memᴰ·not-nil m)
kept_in false r x m = (List·Memᴰ·eq-of-singleton m, refl)

kept_once : (b : Bool) (r : ℕ) → Distinct (kept b r)
kept_once true r = tt
kept_once false r = (λ m. List·Memᴰ·not-nil m, tt)

in_kept : (b : Bool) (r : ℕ) → b ≡ false → r ∈ kept b r
in_kept b r e = rw e (List·Memᴰ·head refl)

module _ (I : List ℕ) where
  -- the test by which a row counts as live
  abbrev live : ℕ → Bool
  live r = not (eqb (get items I r).allocated 0)

  free_are : (l : List ℕ) → free_rows (map (item_in_of I) l) ≡ gather (λ r. kept (live r) r) l
  unfolding item_in_of
  free_are l = gather_map (item_in_of I) (λ (i : Item). pick i.live [] (i.row ∷ [])) (λ r. kept (live r) r) (λ r. refl) l

  pub free_in : (l : List ℕ) (r : ℕ) → r ∈ free_rows (map (item_in_of I) l) → (r ∈ l) × ((get items I r).allocated ≡ 0)
  free_in l r m =
      let (q, k, w) = gather_in (λ r. kept (live r) r) l r (rw free_are at m) in
      let (e, b) = kept_in (live q) q r w in
      (rw e k, rw e (eqb-true (get items I q).allocated 0 (not-false _ b)))

  pub in_free : (l : List ℕ) (r : ℕ) → r ∈ l → (get items I r).allocated ≡ 0 → r ∈ free_rows (map (item_in_of I) l)
  in_free l r m e = rw free_are (in_gather (λ r. kept (live r) r) l r r m (in_kept (live r) r (rw e)))

  pub free_distinct : (l : List ℕ) → Distinct l → Distinct (free_rows (map (item_in_of I) l))
  free_distinct l d =
      rw free_are (gather_distinct (λ r. kept (live r) r) (λ r. r) l d (λ r m. kept_once (live r) r) (λ r m x k. (kept_in (live r) r x k).0))

  live_are : (l : List ℕ) → live_rows (map (item_in_of I) l) ≡ gather (λ r. kept (not (live r)) r) l
  unfolding item_in_of
  live_are l = gather_map (item_in_of I) (λ (i : Item). pick i.live (i.row ∷ []) []) (λ r. kept (not (live r)) r) (λ r. other (live r) r) l
    where
      other : (b : Bool) (r : ℕ) → pick b (r ∷ []) [] ≡ kept (not b) r
      other true r = refl
      other false r = refl

  pub live_in : (l : List ℕ) (r : ℕ) → r ∈ live_rows (map (item_in_of I) l) → (r ∈ l) × ((get items I r).allocated ≢ 0)
  live_in l r m =
      let (q, k, w) = gather_in (λ r. kept (not (live r)) r) l r (rw live_are at m) in
      let (e, b) = kept_in (not (live q)) q r w in
      (rw e k, rw e (λ z. eqb-false (get items I q).allocated 0 (not-true _ (not-false _ b)) z))

  pub in_live : (l : List ℕ) (r : ℕ) → r ∈ l → (get items I r).allocated ≢ 0 → r ∈ live_rows (map (item_in_of I) l)
  in_live l r m n = rw live_are (in_gather (λ r. kept (not (live r)) r) l r r m (in_kept (not (live r)) r (rw (ne_eqb _ 0 n))))

  -- ---- the links of a free list

  abbrev links : ℕ → Links
  links r = links_of (get items I r)

  pub free_chain : (used p : ℕ) (l : List ℕ) → Ends (free_next I) used l → Back (λ p r. (get items I r).prev_unallocated.0 ≡ p) p l → Chain free links p l
  unfolding links_of
  free_chain used p [] e b = tt
  free_chain used p (r ∷ l) e b = ((λ z. record { prev = b.0 z; next = e.1 z }), free_chain used r l e.2 b.1)

  pub free_back : (p : ℕ) (l : List ℕ) → Chain free links p l → Back (λ p r. (get items I r).prev_unallocated.0 ≡ p) p l
  unfolding links_of
  free_back p [] c = tt
  free_back p (r ∷ l) c = (ap (λ (k : Links). k.prev) c.0, free_back r l c.1)

  pub free_names : (r p n : ℕ) → links r ≡ free.says p r n → free_next I r ≡ n
  unfolding links_of
  free_names r p n e = ap (λ (k : Links). k.next) e

  pub free_ends : (used p : ℕ) (l : List ℕ) → ((r : ℕ) → r ∈ l → r < used) → Chain free links p l → Ends (free_next I) used l
  free_ends used p l b c = rw self at (chain_ends free links (free_next I) used free_names p l (λ r m. b r (rw self at m)) c)
