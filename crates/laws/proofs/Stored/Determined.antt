-- An atlas says every number of the header and of the used rows. Assumes nothing.
use Rattle.std.specs.Prelude.{◌<◌, ◌≤◌, ◌≡◌, ◌⊎◌, ◌∷◌}
use Rattle.numbers.specs.Library.{ℕ, sym, ap, ◌∙◌, inl, inr, ⊎_elim, Bool, true, false, List, [], List·Memᴰ·head, List·Memᴰ·not-nil}
use Rattle.numbers.specs.Library.{List·Memᴰ·cases-cons, List·Memᴰ·append-cases, Memᴰ·append-left, Memᴰ·append-right, dec_lt, arith, length}
use Rattle.numbers.specs.Prelude.{no_row, pick}
use Rattle.rows.specs.Prelude.{get, rest, same_rows, items, shelves, body_of, links_of, same_row}
use Rattle.rows.specs.declared.header.Header.{Header}
use Rattle.chains.specs.Prelude.{◌∈◌, Each, Kind, Chain}
use Rattle.chains.proofs.Prelude.{dec_memᴰ, rows_of, self}
use Rattle.rules.specs.Prelude.{Item, Shelf, Atlas, Room, item, free, shelf, freed_shelf, freed_item_of, live_rows, free_rows, Holds, header_of, Stores, shelf_rows_of}
use Rattle.rules.specs.Prelude.{item_rows_of, all_item_rows, AllListed, WellFormed}
use Rattle.laws.specs.Same.{SameUsed}

-- two tables in which a chain lies agree on its rows
chain_agree : {E C : Type 0} (k : Kind E C) (at at' : ℕ → C) (p : ℕ) (xs : List E) → Chain k at p xs → Chain k at' p xs → (r : ℕ) → r ∈ rows_of k xs → at r ≡ at' r
chain_agree k at at' p [] c d r m = absurd (List·Memᴰ·not-nil m)
chain_agree k at at' p (x ∷ xs) c d r m =
    ⊎_elim (λ e. ap at e ∙ c.0 ∙ sym d.0 ∙ ap at' (sym e)) (chain_agree k at at' (k.row x) xs c.1 d.1 r) (List·Memᴰ·cases-cons m)

-- an item's row is live or free
sorted : (b : Bool) (x r : ℕ) → r ≡ x → (r ∈ pick b (x ∷ []) []) ⊎ (r ∈ pick b [] (x ∷ []))
sorted true x r e = inl (List·Memᴰ·head e)
sorted false x r e = inr (List·Memᴰ·head e)

pub live_or_free : (is : List Item) (r : ℕ) → r ∈ item_rows_of is → (r ∈ live_rows is) ⊎ (r ∈ free_rows is)
live_or_free [] r m = absurd (List·Memᴰ·not-nil m)
live_or_free (i ∷ is) r m =
    ⊎_elim
    (λ e. ⊎_elim (λ q. inl (Memᴰ·append-left (live_rows is) q)) (λ q. inr (Memᴰ·append-left (free_rows is) q)) (sorted i.live i.row r e))
    (λ k. ⊎_elim (λ q. inl (Memᴰ·append-right (pick i.live (i.row ∷ []) []) q)) (λ q. inr (Memᴰ·append-right (pick i.live [] (i.row ∷ [])) q)) (live_or_free is r k))
    (List·Memᴰ·cases-cons m)

holds_agree : (I I' : List ℕ) (s : Shelf) → AllListed s → Holds I s → Holds I' s → (r : ℕ) → r ∈ item_rows_of s.items → get items I r ≡ get items I' r
holds_agree I I' s all o o' r m =
    same_row (get items I r) (get items I' r)
    (chain_agree (item s.row) (λ q. body_of (get items I q)) (λ q. body_of (get items I' q)) no_row s.items o.in_order o'.in_order r m)
    (⊎_elim
    (λ q. o.live_unlinked r q ∙ sym (o'.live_unlinked r q))
    (λ q. chain_agree free (λ w. links_of (get items I w)) (λ w. links_of (get items I' w)) no_row s.free o.free_order o'.free_order r (rw self (all r q)))
    (live_or_free s.items r m))

shelves_agree : (I I' : List ℕ) (ss : List Shelf) → Each AllListed ss → Each (Holds I) ss → Each (Holds I') ss → (r : ℕ) → r ∈ all_item_rows ss → get items I r ≡ get items I' r
shelves_agree I I' [] all o o' r m = absurd (List·Memᴰ·not-nil m)
shelves_agree I I' (s ∷ ss) all o o' r m =
    ⊎_elim (holds_agree I I' s all.0 o.0 o'.0 r) (shelves_agree I I' ss all.1 o.1 o'.1 r) (List·Memᴰ·append-cases (item_rows_of s.items) m)

module _ (h h' : Header) (S S' I I' : List ℕ) (room : Room) (a : Atlas) (l : Stores h S I a) (l' : Stores h' S' I' a) (k : WellFormed room a) where
  shelf_agrees : (r : ℕ) → r < a.rows.shelves.used → Dec (r ∈ shelf_rows_of a.shelves) → get shelves S r ≡ get shelves S' r
  shelf_agrees r b (yes m) = chain_agree shelf (get shelves S) (get shelves S') no_row a.shelves l.shelf_chain l'.shelf_chain r m
  shelf_agrees r b (no n) =
      chain_agree freed_shelf (get shelves S) (get shelves S') no_row a.rows.shelves.freed l.freed_shelves_lem l'.freed_shelves_lem r
      (rw self ((k.sound.shelf_rows.freed_exactly r).1 (b, n)))

  item_agrees : (r : ℕ) → r < a.rows.items.used → Dec (r ∈ all_item_rows a.shelves) → get items I r ≡ get items I' r
  item_agrees r b (yes m) = shelves_agree I I' a.shelves k.shaped.all_listed l.shelf_items l'.shelf_items r m
  item_agrees r b (no n) =
      chain_agree freed_item_of (get items I) (get items I') no_row a.rows.items.freed l.freed_items_lem l'.freed_items_lem r ((k.sound.item_rows.freed_exactly r).1 (b, n))

  pub determined : SameUsed h h' S S' I I'
  unfolding header_of
  determined = record {
    header = l.header ∙ sym l'.header;
    shelf_rows = λ r b. shelf_agrees r (omega (arith, ap (λ (q : Header). q.used_shelves) l.header)) (dec_memᴰ r (shelf_rows_of a.shelves));
    item_rows = λ r b. item_agrees r (omega (arith, ap (λ (q : Header). q.used_items) l.header)) (dec_memᴰ r (all_item_rows a.shelves));
  }

-- ---- tables with the same used rows, alike elsewhere, are the same

module _ (h h' : Header) (S S' I I' : List ℕ) (u : SameUsed h h' S S' I I') where
  pub same_shelves : length S ≡ length S' → rest shelves S ≡ rest shelves S' → ((r : ℕ) → h.used_shelves ≤ r → get shelves S r ≡ get shelves S' r) → S ≡ S'
  same_shelves len end past = same_rows shelves S S' len (λ r b. go r (dec_lt r h.used_shelves)) end
    where
      go : (r : ℕ) → Dec (r < h.used_shelves) → get shelves S r ≡ get shelves S' r
      go r (yes b) = u.shelf_rows r b
      go r (no n) = past r (omega arith)

  pub same_items : length I ≡ length I' → rest items I ≡ rest items I' → ((r : ℕ) → h.used_items ≤ r → get items I r ≡ get items I' r) → I ≡ I'
  same_items len end past = same_rows items I I' len (λ r b. go r (dec_lt r h.used_items)) end
    where
      go : (r : ℕ) → Dec (r < h.used_items) → get items I r ≡ get items I' r
      go r (yes b) = u.item_rows r b
      go r (no n) = past r (omega arith)
