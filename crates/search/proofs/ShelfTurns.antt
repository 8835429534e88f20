-- The walk of the shelf chain, turn by turn: how the loop's numbers come to carry what the definition holds. Assumes nothing.
use Rattle.std.specs.Prelude.{◌<◌, ◌≤◌, ◌≡◌, ◌≢◌, Option, None, Some}
use Rattle.std.specs.Option.{is_some}
use Rattle.numbers.specs.Library.{ℕ, refl, sym, ap, ◌∙◌, Bool, true, false, not, List, arith, length, eq-eqb, ne_eqb}
use Rattle.numbers.specs.Prelude.{pick, no_row, good_fit_to}
use Rattle.numbers.specs.declared.{index.ItemIndex.ItemIndex, request.Asked.Asked}
use Rattle.rows.specs.Prelude.{rows, get, rows_few, items, shelves}
use Rattle.rows.specs.declared.{header.Header.Header, shelf.ShelfRow.ShelfRow}
use Rattle.chains.specs.Prelude.{Each, rows_from, EndsFrom}
use Rattle.chains.proofs.Prelude.{Onward, ends_onward, ends_among, rows_among, met_end}
use Rattle.rules.specs.Prelude.{shelf_next, free_next}
use Rattle.search.specs.declared.Place.{Place}
use Rattle.search.specs.Search.{Held, nothing, good, bad, place_of, first_wide, is_bad_fit, skipped, tried, looked, is_exact, walk, search}
use Rattle.search.specs.Search.{shallower_than, skipped_by, PastSkipped, start, past}
use Rattle.search.specs.Walkable.{WalkableFrom, Walkable}
use Rattle.search.proofs.Tests.{fails, holds}
use Rattle.search.proofs.InUse.{few_shelves}
use Rattle.search.proofs.ToTry.{chain_from}
use Rattle.search.proofs.Skipping.{skips_so, bad_first, exact_fits}

-- ---- from one shelf to the next

-- the chain, among the rows that the table has
pub chain_there : {h : Header} {S I : List ℕ} {at : ℕ} → WalkableFrom h S I at → EndsFrom (shelf_next S) (rows shelves S) at
chain_there {h} {S} {I} {at} w = ends_among (shelf_next S) h.used_shelves (rows shelves S) w.shelves_fit (rows_few shelves S) at w.chain_ends

module _ {h : Header} {S I : List ℕ} {at : ℕ} (w : WalkableFrom h S I at) (some : at ≢ no_row) where
  on : Onward (shelf_next S) h.used_shelves (few_shelves w) at
  on = ends_onward (shelf_next S) h.used_shelves (few_shelves w) at some w.chain_ends

  pub shelf_there : at < rows shelves S
  shelf_there = omega (arith, on.within, w.shelves_fit)

  lists : EndsFrom (free_next I) h.used_items (get shelves S at).first_unallocated.0
      × Each (λ r. EndsFrom (free_next I) h.used_items (get shelves S r).first_unallocated.0) (rows_from (shelf_next S) h.used_shelves (shelf_next S at))
  lists = rw (on.rows_are, Each) at w.lists_end

  next_walkable : WalkableFrom h S I (shelf_next S at)
  next_walkable = record { shelves_fit = w.shelves_fit; items_fit = w.items_fit; chain_ends = on.rest; lists_end = lists.1 }

  module _ (s : ShelfRow) (is : s ≡ get shelves S at) where
    -- its free list, among the rows that the table has
    pub list_there : EndsFrom (free_next I) (rows items I) s.first_unallocated.0
    list_there = rw is (ends_among (free_next I) h.used_items (rows items I) w.items_fit (rows_few items I) _ lists.0)

    list_same : rows_from (free_next I) (rows items I) s.first_unallocated.0 ≡ rows_from (free_next I) h.used_items s.first_unallocated.0
    list_same = rw is (rows_among (free_next I) h.used_items (rows items I) w.items_fit (rows_few items I) _ lists.0)

    -- the measure of the loop, which knows no header
    pub shorter : length (chain_from S s.next.0) < length (chain_from S at)
    shorter =
        let o : Onward (shelf_next S) (rows shelves S) (rows_few shelves S) at = ends_onward (shelf_next S) (rows shelves S) (rows_few shelves S) at some (chain_there w) in
        rw (is, o.rows_are) (omega arith)

-- ---- the loop's numbers

-- The loop has come to the shelf in row `at`, and carries this depth and this place for what is held, which is no exact fit; the rest of the chain leads to
-- what the whole search holds.
pub record AtShelf (h : Header) (S I : List ℕ) (q : Asked) (at below : ℕ) (p : Option Place) : Type 0 where
  pub ahead : WalkableFrom h S I at
  pub held : Held
  pub inexact : is_exact q held ≡ false
  pub bound : below ≡ shallower_than held
  pub place : p ≡ place_of held
  pub same : search h S I q ≡ walk S I h.used_items q held (rows_from (shelf_next S) h.used_shelves at)

pub begins : {h : Header} {S I : List ℕ} {q : Asked} → Walkable h S I → AtShelf h S I q 0 65536 None
unfolding is_exact shallower_than place_of search
begins w = record { ahead = w; held = nothing; inexact = refl; bound = refl; place = refl; same = refl }

module _ {h : Header} {S I : List ℕ} {q : Asked} {at below : ℕ} {p : Option Place} (turn : AtShelf h S I q at below p) where
  pub ended : at ≡ no_row → p ≡ place_of (search h S I q)
  unfolding walk
  ended e = turn.place ∙ ap place_of (sym (turn.same ∙ ap (walk S I h.used_items q turn.held) (met_end (shelf_next S) h.used_shelves at e)))

  module _ (some : at ≢ no_row) (s : ShelfRow) (is : s ≡ get shelves S at) where
    -- what the definition holds after this shelf
    abbrev after : Held
    after = looked I h.used_items q turn.held at s

    step : search h S I q ≡ pick (is_exact q after) after (walk S I h.used_items q after (rows_from (shelf_next S) h.used_shelves s.next.0))
    unfolding walk
    step = rw is (turn.same ∙ rw ((on turn.ahead some).rows_are, walk))

    -- on to the next shelf, unless it is an exact fit
    onward : (held : Held) → after ≡ held → is_exact q held ≡ false → (below' : ℕ) → below' ≡ shallower_than held → (p' : Option Place) → p' ≡ place_of held
        → AtShelf h S I q s.next.0 below' p'
    onward held e inexact below' bound p' place = record {
      ahead = rw is (next_walkable turn.ahead some);
      held = held;
      inexact = inexact;
      bound = bound;
      place = place;
      same = step ∙ rw (e, inexact);
    }

    module _ (goodTo : ℕ) (fit : goodTo ≡ good_fit_to q.depth) (short : s.height ≤ 65535) {holding : Bool} (any : holding ≡ is_some p) where
      -- what the code's numbers tell of the shelf
      skips : {pass : Bool} → skipped_by q.depth goodTo below holding (get shelves S at) ≡ pass → skipped q turn.held s ≡ pass
      skips told = sym (skips_so q s short turn.held) ∙ (rw (any, turn.bound, turn.place, fit, ← is) at told)

      pub past_skipped : skipped_by q.depth goodTo below holding (get shelves S at) ≡ true → AtShelf h S I q s.next.0 below p
      unfolding looked
      past_skipped e = onward turn.held (rw (skips e)) turn.inexact below turn.bound p turn.place

      -- `found` is the first item of its free list that is wide enough
      module _ (e : skipped_by q.depth goodTo below holding (get shelves S at) ≡ false) (found : ItemIndex)
          (first : found ≡ first_wide I q.width (rows_from (free_next I) (rows items I) s.first_unallocated.0)) where
        looks : skipped q turn.held s ≡ false
        looks = skips e

        first_used : found ≡ first_wide I q.width (rows_from (free_next I) h.used_items s.first_unallocated.0)
        first_used = first ∙ ap (first_wide I q.width) (list_same turn.ahead some s is)

        pub past_none : found.0 ≡ no_row → AtShelf h S I q s.next.0 below p
        unfolding looked tried
        past_none n = onward turn.held (rw (looks, ← first_used, eq-eqb found.0 no_row n)) turn.inexact below turn.bound p turn.place

        module _ (there : found.0 ≢ no_row) where
          abbrev here : Place
          here = record { shelf = record { 0 = at }; item = found }

          now_good : is_bad_fit goodTo s ≡ false → after ≡ good here s.height
          unfolding looked tried
          now_good b = rw (looks, ← first_used, ne_eqb found.0 no_row there, ← fit, b)

          now_bad : is_bad_fit goodTo s ≡ true → after ≡ bad here
          unfolding looked tried
          now_bad b = rw (looks, ← first_used, ne_eqb found.0 no_row there, ← fit, b)

          pub exact : s.height ≡ q.depth → Some here ≡ place_of (search h S I q)
          unfolding is_exact place_of
          exact e =
              let ends_here : search h S I q ≡ good here s.height = step ∙ rw (now_good (rw fit (exact_fits q.depth s short e)), eq-eqb s.height q.depth e) in
              sym (ap place_of ends_here)

          module _ {bad_fit_lem : Bool} (judged : bad_fit_lem ≡ is_bad_fit goodTo s) where
            pub past_good : s.height ≢ q.depth → not bad_fit_lem ≡ true → AtShelf h S I q s.next.0 s.height (Some here)
            unfolding is_exact shallower_than place_of
            past_good other b = onward (good here s.height) (now_good (fails judged b)) (ne_eqb s.height q.depth other) s.height refl (Some here) refl

            -- the first bad fit, while nothing is held
            pub past_bad : not bad_fit_lem ≡ false → AtShelf h S I q s.next.0 below (Some here)
            unfolding is_exact shallower_than place_of
            past_bad b =
                let none_yet : turn.held ≡ nothing = bad_first q s turn.held looks (rw fit at (holds judged b)) in
                onward (bad here) (now_bad (holds judged b)) refl below (turn.bound ∙ ap shallower_than none_yet) (Some here) refl

-- ---- to the next shelf to try

-- all the shelves before it are skipped, so that what is held stays
module _ {h : Header} {S I : List ℕ} {q : Asked} {from below : ℕ} {p : Option Place} (turn : AtShelf h S I q from below p)
    (goodTo : ℕ) (fit : goodTo ≡ good_fit_to q.depth) {holding : Bool} (any : holding ≡ is_some p) where
  pub reached : {at : ℕ} → PastSkipped S q.depth goodTo below holding from at → AtShelf h S I q at below p
  reached start = turn
  reached (past at passed some short e) = past_skipped (reached passed) some (get shelves S at) refl goodTo fit short any e

  nearer : {at : ℕ} → PastSkipped S q.depth goodTo below holding from at → length (chain_from S at) ≤ length (chain_from S from)
  nearer start = omega arith
  nearer (past at passed some short e) = omega (arith, nearer passed, shorter (reached passed).ahead some (get shelves S at) refl)

  -- past the shelf that is tried, less of the chain is left
  pub closer : {at : ℕ} → PastSkipped S q.depth goodTo below holding from at → at ≢ no_row → (s : ShelfRow) → s ≡ get shelves S at
      → length (chain_from S s.next.0) < length (chain_from S from)
  closer passed some s is = omega (arith, nearer passed, shorter (reached passed).ahead some s is)
