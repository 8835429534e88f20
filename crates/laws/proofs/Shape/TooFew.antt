-- Answer 7 is given exactly where the splits of the place that the search holds need more rows than are left. Assumes nothing.
use Rattle.std.specs.Prelude.{◌≡◌, ◌≢◌, ◌⊎◌, ◌∷◌}
use Rattle.numbers.specs.Library.{ℕ, refl, inl, inr, Bool, true, false, some, []}
use Rattle.numbers.specs.Prelude.{pick}
use Rattle.numbers.specs.declared.request.Asked.{Asked}
use Rattle.rows.specs.declared.live.Live.{Live}
use Rattle.chains.specs.Prelude.{◌iff◌, Focus}
use Rattle.rules.specs.Prelude.{Item, Shelf, Atlas, Room, Held, nothing, good, bad, search, splits_shelf, splits_item, too_few_rows, find_item, grant_item, grant_in_shelf}
use Rattle.rules.specs.Prelude.{grant_row, grant, upper_part, lower_part, shelf_taken, item_taken, Outcome, refused, gives, Given, WellFormed}
use Rattle.laws.specs.Places.{Fits, TooFew}
use Rattle.laws.proofs.Shape.Around.{pick_cases}
use Rattle.laws.proofs.Shape.Finding.{Holding, search_holding}
use Rattle.laws.proofs.Shape.Granting.{fits_found, place_so}

module _ (room : Room) (a : Atlas) (formed : WellFormed room a) (q : Asked) where
  -- what an outcome says of the rows
  Seven : Outcome (Given Live) → Type 0
  Seven o = o ≡ refused 7 → TooFew room a q

  -- a grant is no refusal
  abbrev NotSeven : Outcome (Given Live) → Type 0
  NotSeven o = o ≢ refused 7

  granted_not : (g : Given Live) → NotSeven (gives g)
  granted_not g e = cc

  placed_not : (f : Focus Shelf) (w : Focus Item) → NotSeven (pick (splits_shelf q f.this)
      (grant_item a q (record { before = f.before; this = upper_part q.depth f.this; after = f.after }) w (lower_part a.limits a.rows q.depth f.this ∷ f.after) (item_taken (shelf_taken a.rows)))
      (grant_item a q f w f.after a.rows))
  placed_not f w =
      pick_cases NotSeven (splits_shelf q f.this) _ _
      (λ _. place_so a q NotSeven _ w _ _ (λ _. granted_not _) (λ _. granted_not _))
      (λ _. place_so a q NotSeven f w f.after a.rows (λ _. granted_not _) (λ _. granted_not _))

  row_seven : (f : Focus Shelf) (row : ℕ) → Fits q a.shelves f row → (search q a.shelves ≡ good f row) ⊎ (search q a.shelves ≡ bad f row) → Seven (grant_row room a q f row)
  unfolding Seven grant_row grant_in_shelf
  row_seven f row fits held =
      let (w, found, chosen) = fits_found room a formed.sound q f row fits in
      rw (found, grant_row) (go w found (too_few_rows room a.rows (splits_shelf q f.this) (splits_item q w.this)) refl) where
        go : (w : Focus Item) → find_item row [] f.this.items ≡ some w → (few : Bool) → too_few_rows room a.rows (splits_shelf q f.this) (splits_item q w.this) ≡ few
            → Seven (pick few (refused 7) (pick (splits_shelf q f.this)
            (grant_item a q (record { before = f.before; this = upper_part q.depth f.this; after = f.after }) w (lower_part a.limits a.rows q.depth f.this ∷ f.after) (item_taken (shelf_taken a.rows)))
            (grant_item a q f w f.after a.rows)))
        go w found true few e = record { shelf = f; item = w; row = row; chosen = held; its_item = found; too_few = few }
        go w found false few e = absurd (placed_not f w e)

  -- "Answer 7 is given exactly when the chosen splits need more rows of a table than are freed or unused there."
  pub refuses_7 : (grant room a q ≡ refused 7) iff TooFew room a q
  unfolding Seven grant grant_row grant_in_shelf
  refuses_7 = (only (search q a.shelves) refl (search_holding q a.shelves), λ few. found few few.chosen) where
    only : (h : Held) → search q a.shelves ≡ h → Holding q a.shelves h → Seven (elim h [ nothing ↦ refused 6 | good f row ↦ grant_row room a q f row | bad f row ↦ grant_row room a q f row ])
    only nothing e fits = λ s. absurd cc
    only (good f row) e fits = row_seven f row fits (inl e)
    only (bad f row) e fits = row_seven f row fits (inr e)

    in_shelf : (few : TooFew room a q) → grant_row room a q few.shelf few.row ≡ refused 7
    in_shelf few = rw (few.its_item, grant_row, few.too_few)

    found : (few : TooFew room a q) → (search q a.shelves ≡ good few.shelf few.row) ⊎ (search q a.shelves ≡ bad few.shelf few.row) → grant room a q ≡ refused 7
    found few (inl e) = rw (e, grant) (in_shelf few)
    found few (inr e) = rw (e, grant) (in_shelf few)
