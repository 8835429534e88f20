-- What comes of a search, in the tables as in the rules: answer 6 where it holds nothing, answer 7 where the rows left don't suffice for the place that
-- it holds, and else that place, where the rules grant too. Assumes nothing.
use Rattle.std.specs.Prelude.{◌≡◌, ◌⊎◌}
use Rattle.numbers.specs.Library.{ℕ, refl, sym, ap, ◌∙◌, subst, inl, inr, ⊎_elim, Bool, true, false, not, some, List, []}
use Rattle.numbers.specs.declared.request.Asked.{Asked}
use Rattle.chains.specs.Prelude.{Focus, first_row}
use Rattle.rows.specs.Prelude.{get, items, shelves, body_of}
use Rattle.rows.specs.declared.header.Header.{Header}
use Rattle.rules.specs.Prelude.{Item, Shelf, Atlas, refused, splits_shelf, splits_item, too_few_rows, find_item, grant_in_shelf, grant_row, grant, Found, Stores}
use Rattle.rules.specs.Prelude.{room_in, WellFormed, is_empty_of, item, shelf}
use Rattle.rules.proofs.Flags.{flag_one}
use Rattle.bridge.proofs.Items.RowViews.{seen_width}
use Rattle.rules.specs.Search as rule
use Rattle.laws.specs.Places.{Chosen}
use Rattle.laws.proofs.Shape.Kept.{search_holds, search_finds}
use Rattle.laws.proofs.Shape.Finding.{FoundItem, find_item_lem}
use Rattle.search.specs.Search as table
use Rattle.plan.specs.Plan.{splits_shelf as splitsRow, splits_item as splitsItemRow, plan_at, has_rows}
use Rattle.plan.specs.declared.Plan.{Plan}
use Rattle.live_rows.specs.Live.{at_row}
use Rattle.search.specs.declared.Place.{Place}
use Rattle.bridge.proofs.Search.Walking.{held_rows}
use Rattle.bridge.proofs.Search.Searching.{search_says}
use Rattle.bridge.proofs.Search.RowsLeft.{enough_says}
use Rattle.bridge.proofs.Search.LookUp.{item_says, shelf_says}
use Rattle.bridge.proofs.Stands.{on_row}

-- the rows of a shelf and an item, as the search holds them
abbrev pub place_at : Shelf → Item → Place
place_at s i = record { shelf = on_row s.row; item = at_row i.row }

nothing_held : (x : rule.Held) → held_rows x ≡ table.nothing → x ≡ rule.nothing
nothing_held rule.nothing e = refl
nothing_held (rule.good f r) e = cc
nothing_held (rule.bad f r) e = cc

-- a shelf and a row that the rules' walk holds
record Holding (x : rule.Held) (p : Place) : Type 0 where
  pub shelf : Focus Shelf
  pub row : ℕ
  pub held : (x ≡ rule.good shelf row) ⊎ (x ≡ rule.bad shelf row)
  pub is : p ≡ record { shelf = on_row shelf.this.row; item = at_row row }

some_held : (x : rule.Held) (p : Place) → table.IsHeld p (held_rows x) → Holding x p
some_held rule.nothing p = ⊎_elim (λ (d, e). cc) (λ e. cc)
some_held (rule.good f r) p = ⊎_elim (λ (d, e). record { shelf = f; row = r; held = inl refl; is = cc }) (λ e. cc)
some_held (rule.bad f r) p = ⊎_elim (λ (d, e). cc) (λ e. record { shelf = f; row = r; held = inr refl; is = cc })

module _ (h : Header) (S I : List ℕ) (a : Atlas) (stored : Stores h S I a) (formed : WellFormed (room_in S I) a) (q : Asked) where
  says : table.search h S I q ≡ held_rows (rule.search q a.shelves)
  says = search_says h S I a stored formed q

  -- answer 6
  pub refuses_6 : table.search h S I q ≡ table.nothing → grant (room_in S I) a q ≡ refused 6
  unfolding grant
  refuses_6 e = rw (nothing_held (rule.search q a.shelves) (sym says ∙ e), grant)

  -- The item that the search holds where it stands; a grant is made there, or is refused for want of rows.
  pub record PlaceHeld (p : Place) : Type 0 where
    pub shelf : Focus Shelf
    pub item : Focus Item
    pub chosen : Chosen a q shelf item
    pub is : p ≡ place_at shelf.this item.this
    pub grant_is : grant (room_in S I) a q ≡ grant_in_shelf (room_in S I) a q shelf item

  grant_at_lem : (f : Focus Shelf) (row : ℕ) → (rule.search q a.shelves ≡ rule.good f row) ⊎ (rule.search q a.shelves ≡ rule.bad f row) → grant (room_in S I) a q ≡ grant_row (room_in S I) a q f row
  unfolding grant
  grant_at_lem f row = ⊎_elim (λ e. rw (e, grant)) (λ e. rw (e, grant))

  at_found : (f : Focus Shelf) (row : ℕ) (w : Focus Item) → find_item row [] f.this.items ≡ some w → grant_row (room_in S I) a q f row ≡ grant_in_shelf (room_in S I) a q f w
  unfolding grant_row
  at_found f row w e = rw (e, grant_row)

  held_at : (p : Place) (holding : Holding (rule.search q a.shelves) p) (item_at_of : Focus Item) → find_item holding.row [] holding.shelf.this.items ≡ some item_at_of → Chosen a q holding.shelf item_at_of → PlaceHeld p
  held_at p holding item_at_of e c = record {
    shelf = holding.shelf;
    item = item_at_of;
    chosen = c;
    is = holding.is ∙ ap (λ (r : ℕ). record { shelf = on_row holding.shelf.this.row; item = at_row r }) (sym found.1);
    grant_is = grant_at_lem holding.shelf holding.row holding.held ∙ at_found holding.shelf holding.row item_at_of e;
  } where
    found : FoundItem holding.row holding.shelf.this.items holding.shelf.this.items (some item_at_of)
    found = subst (FoundItem holding.row holding.shelf.this.items holding.shelf.this.items) e (find_item_lem holding.row [] holding.shelf.this.items)

  -- the row held is an item of the shelf held, since the walk holds rows of the free list only
  pub place_held : (p : Place) → table.IsHeld p (table.search h S I q) → PlaceHeld p
  place_held p o =
      let holding : Holding (rule.search q a.shelves) p = some_held (rule.search q a.shelves) p (⊎_elim (λ (d, e). inl (d, sym says ∙ e)) (λ e. inr (sym says ∙ e)) o) in
      let (item_at_of, e, c) = search_finds (room_in S I) a q holding.shelf holding.row formed (search_holds q a.shelves holding.shelf holding.row holding.held) in
      held_at p holding item_at_of e c

  -- ---- the plan at the place, and the rows that it needs

  module _ (p : Place) (place : PlaceHeld p) where
    abbrev s : Shelf
    s = place.shelf.this

    abbrev i : Item
    i = place.item.this

    abbrev pub plan : Plan
    plan = plan_at h S I p q

    abbrev found : Found
    found = record { shelf = place.shelf; item = place.item }

    -- what the two rows say that the plan reads
    pub shelf_row_says : get shelves S s.row ≡ shelf.says (first_row shelf.row place.shelf.before) s (first_row shelf.row place.shelf.after)
    shelf_row_says = shelf_says h S I a stored formed.sound found i.row (place.chosen.stands, place.chosen.spot.stands, refl)

    pub item_row_says : body_of (get items I i.row) ≡ (item s.row).says (first_row (item 0).row place.item.before) i (first_row (item 0).row place.item.after)
    item_row_says = item_says h S I a stored formed.sound found (place.chosen.stands, place.chosen.spot.stands, refl)

    -- it splits what the rules split
    pub splits_shelf_lem : splitsRow q (get shelves S s.row) ≡ splits_shelf q s
    unfolding splitsRow splits_shelf table.shelf_is_empty
    splits_shelf_lem = rw (shelf_row_says) (rw (flag_one (is_empty_of s.items)))

    pub splits_item_lem : splitsItemRow q (get items I i.row) ≡ splits_item q i
    unfolding splitsItemRow splits_item
    splits_item_lem = rw (seen_width (get items I i.row) item_row_says)

    rows_enough : has_rows h S I plan ≡ not (too_few_rows (room_in S I) a.rows (splits_shelf q s) (splits_item q i))
    unfolding has_rows plan_at
    rows_enough =
        ap (λ (x : Place). has_rows h S I (plan_at h S I x q)) place.is
        ∙ rw (splits_shelf_lem, splits_item_lem) (enough_says h S I a stored formed (splits_shelf q s) (splits_item q i))

    -- the tables' test is the rules' test turned round
    turned : (b c d : Bool) → b ≡ not c → b ≡ not d → c ≡ d
    turned b true true e f = refl
    turned b false false e f = refl
    turned b true false e f = cc
    turned b false true e f = cc

    few_rows : (b : Bool) → has_rows h S I plan ≡ not b → too_few_rows (room_in S I) a.rows (splits_shelf q s) (splits_item q i) ≡ b
    few_rows b e = turned (has_rows h S I plan) _ b rows_enough e

    -- answer 7
    pub refuses_7 : has_rows h S I plan ≡ false → grant (room_in S I) a q ≡ refused 7
    unfolding grant_in_shelf
    refuses_7 e = place.grant_is ∙ rw (few_rows true e)

    pub rows_suffice : has_rows h S I plan ≡ true → too_few_rows (room_in S I) a.rows (splits_shelf q s) (splits_item q i) ≡ false
    rows_suffice e = few_rows false e
