-- The used item rows link among themselves, in a state in which an atlas stands whose free lists are whole: a used row serves on a shelf or is freed,
-- and either way it says what its place in a chain of such rows is. Assumes nothing.
use Rattle.std.specs.Prelude.{◌<◌, ◌≡◌, ◌∷◌}
use Rattle.numbers.specs.Library.{ℕ, refl, sym, ap, ◌∙◌, subst, inl, inr, ⊎_elim, List, [], List·Memᴰ·head, List·Memᴰ·tail, List·Memᴰ·not-nil}
use Rattle.numbers.specs.Library.{List·Memᴰ·cases-cons, List·Memᴰ·append-cases, Memᴰ·append-left, Memᴰ·append-right, arith}
use Rattle.numbers.specs.Prelude.{no_row}
use Rattle.chains.specs.Prelude.{◌∈◌, Each, Kind, first_row, Chain}
use Rattle.chains.proofs.Prelude.{dec_memᴰ, rows_of, self}
use Rattle.rows.specs.Prelude.{get, past_same, items, with_item_next, with_generation, Body, body_of, links_of}
use Rattle.pool.specs.Pool.{freed_item_row}
use Rattle.rules.specs.Prelude.{Shelf, Freed, Atlas, item, free, freed_item_of, Holds, item_rows_of, all_item_rows, freed_rows, AllListed, FreeListed}
use Rattle.rules.proofs.LiveRows.{free_row}
use Rattle.laws.proofs.Stored.Determined.{live_or_free}
use Rattle.rows.specs.State.{State}
use Rattle.bridge.proofs.Stands.{Stands, used_items_lem}
use Rattle.rows.specs.Prelude.{Below, Linked, LinksWithin}

-- ---- along a chain

-- what the row of an element says, between two rows of the chain or none
pub record Between {E C : Type 0} (k : Kind E C) (n : ℕ) (here : C) : Type 0 where
  pub element : E
  pub before : ℕ
  pub after : ℕ
  pub says : here ≡ k.says before element after
  pub before_below : Below n before
  pub after_below : Below n after

-- a chain starts with a row of its own, or with none
pub first_below : {E C : Type 0} (k : Kind E C) (n : ℕ) (xs : List E) → ((r : ℕ) → r ∈ rows_of k xs → r < n) → Below n (first_row k.row xs)
first_below k n [] b = inr refl
first_below k n (x ∷ xs) b = inl (b (k.row x) (List·Memᴰ·head refl))

between : {E C : Type 0} (k : Kind E C) (at : ℕ → C) (n p : ℕ) (xs : List E) → Below n p → ((r : ℕ) → r ∈ rows_of k xs → r < n) → Chain k at p xs
    → (r : ℕ) → r ∈ rows_of k xs → Between k n (at r)
between k at n p [] bp b c r m = absurd (List·Memᴰ·not-nil m)
between k at n p (x ∷ xs) bp b c r m =
    ⊎_elim
    (λ e. record { element = x; before = p; after = first_row k.row xs; says = ap at e ∙ c.0; before_below = bp; after_below = first_below k n xs (λ q d. b q (List·Memᴰ·tail d)) })
    (between k at n (k.row x) xs (inl (b (k.row x) (List·Memᴰ·head refl))) (λ q d. b q (List·Memᴰ·tail d)) c.1 r)
    (List·Memᴰ·cases-cons m)

-- ---- the rows of a shelf, and the freed ones

module _ (I : List ℕ) (n : ℕ) where
  -- a live item has no free links, and a free one has those of its place in the free list
  links-below : (s : Shelf) → Holds I s → AllListed s → FreeListed s → ((r : ℕ) → r ∈ item_rows_of s.items → r < n) → (r : ℕ) → r ∈ item_rows_of s.items
      → Below n (links_of (get items I r)).prev × Below n (links_of (get items I r)).next
  links-below s holds all listed b r m =
      ⊎_elim
      (λ live. rw (holds.live_unlinked r live) (inr refl, inr refl))
      (λ is_free.
      let place : Between free n (links_of (get items I r)) =
      between free (λ q. links_of (get items I q)) n no_row s.free (inr refl) (λ q d. b q (free_row s.items q (listed.only q (rw self at d)))) holds.free_order r (rw self (all r is_free)) in
      rw place.says (place.before_below, place.after_below))
      (live_or_free s.items r m)

  -- the other two links are those of its place among the items of the shelf
  shelf_linked : (s : Shelf) → Holds I s → AllListed s → FreeListed s → ((r : ℕ) → r ∈ item_rows_of s.items → r < n) → (r : ℕ) → r ∈ item_rows_of s.items → Linked n (get items I r)
  unfolding body_of links_of
  shelf_linked s holds all listed b r m =
      let place : Between (item s.row) n (body_of (get items I r)) = between (item s.row) (λ q. body_of (get items I q)) n no_row s.items (inr refl) b holds.in_order r m in
      let (p, q) = links-below s holds all listed b r m in
      record {
        prev = subst (Below n) (sym (ap (λ (x : Body). x.prev) place.says)) place.before_below;
        next = subst (Below n) (sym (ap (λ (x : Body). x.next) place.says)) place.after_below;
        prev_free = p;
        next_free = q;
      }

  shelves_linked : (ss : List Shelf) → Each (Holds I) ss → Each AllListed ss → Each FreeListed ss → ((r : ℕ) → r ∈ all_item_rows ss → r < n) → (r : ℕ) → r ∈ all_item_rows ss → Linked n (get items I r)
  shelves_linked [] holds all listed b r m = absurd (List·Memᴰ·not-nil m)
  shelves_linked (s ∷ ss) holds all listed b r m =
      ⊎_elim
      (shelf_linked s holds.0 all.0 listed.0 (λ q d. b q (Memᴰ·append-left (all_item_rows ss) d)) r)
      (shelves_linked ss holds.1 all.1 listed.1 (λ q d. b q (Memᴰ·append-right (item_rows_of s.items) d)) r)
      (List·Memᴰ·append-cases (item_rows_of s.items) m)

  freed_linked : 0 < n → (fs : List Freed) → Chain freed_item_of (get items I) no_row fs → ((r : ℕ) → r ∈ freed_rows fs → r < n) → (r : ℕ) → r ∈ freed_rows fs → Linked n (get items I r)
  unfolding freed_item_row with_item_next with_generation
  freed_linked some fs c b r m =
      let place : Between freed_item_of n (get items I r) = between freed_item_of (get items I) n no_row fs (inr refl) b c r m in
      rw place.says (record { prev = inl some; next = place.after_below; prev_free = inl some; next_free = inl some })

-- ---- all used rows

module _ (st : State) (a : Atlas) (stands : Stands st a) (all : Each AllListed a.shelves) where
  abbrev used : ℕ
  used = a.rows.items.used

  used_linked : (r : ℕ) → r < used → Dec (r ∈ all_item_rows a.shelves) → Linked used (get items st.items r)
  used_linked r b (yes m) = shelves_linked st.items used a.shelves stands.stored.shelf_items all stands.sound.free_listed stands.sound.item_rows.serving_used r m
  used_linked r b (no k) =
      freed_linked st.items used (omega arith) a.rows.items.freed stands.stored.freed_items_lem (λ q d. ((stands.sound.item_rows.freed_exactly q).0 d).0) r
      ((stands.sound.item_rows.freed_exactly r).1 (b, k))

  pub links-within : 0 < used → LinksWithin used st.items st.items
  links-within some = record {
    past = past_same items used st.items;
    some = some;
    room = used_items_lem st a stands;
    linked = λ r b. used_linked r b (dec_memᴰ r (all_item_rows a.shelves));
  }

  -- the head of the freed chain
  pub head_below : Below used (first_row freed_item_of.row a.rows.items.freed)
  head_below = first_below freed_item_of used a.rows.items.freed (λ q d. ((stands.sound.item_rows.freed_exactly q).0 d).0)
