-- The ways in which a request is granted: what holds of the place, and which of the two splits are made. Assumes nothing.
use Rattle.std.specs.Prelude.{◌≡◌, ◌∷◌}
use Rattle.numbers.specs.Library.{ℕ, refl, subst, true, false, Option, none, some, List, [], Memᴰ·cast}
use Rattle.numbers.specs.declared.request.Asked.{Asked}
use Rattle.rows.specs.declared.live.Live.{Live}
use Rattle.chains.specs.Prelude.{◌∈◌, Distinct, Focus, back_onto}
use Rattle.rules.specs.Prelude.{Item, Shelf, Rows, Atlas, Room, Held, nothing, good, bad, search, shelf_taken, item_taken, splits_shelf, upper_part, lower_part}
use Rattle.rules.specs.Prelude.{splits_item, granted_item, grant_whole, grant_part, too_few_rows, live_of, grants, grant_item, grant_in_shelf, find_item, grant_row, grant}
use Rattle.rules.specs.Prelude.{Outcome, refused, gives, Given, item_rows_of, Sound}
use Rattle.laws.specs.Places.{Fits, Chosen}
use Rattle.laws.proofs.Shape.Around.{pick_cases}
use Rattle.rules.proofs.LiveRows.{free_row}
use Rattle.laws.proofs.Shape.Listed.{is_free}
use Rattle.laws.proofs.Shape.Finding.{FoundItem, find_item_lem, rows_once, free_only, Holding, search_holding}

-- ---- what the search holds is there

module _ (room : Room) (a : Atlas) (sound : Sound room a) (asked : Asked) (f : Focus Shelf) (row : ℕ) (fits : Fits asked a.shelves f row) where
  chosen : (w : Focus Item) → FoundItem row f.this.items f.this.items (some w) → Chosen a asked f w
  chosen w found =
      let once : Distinct (item_rows_of (back_onto w.before (w.this ∷ w.after))) = rw found.0 at (rows_once room a sound f.before f.this f.after fits.stands) in
      let listed : w.this.row ∈ f.this.free = Memᴰ·cast found.1 fits.listed in
      record {
        stands = fits.stands;
        deep = fits.deep;
        spot = record {
          stands = found.0;
          once = once;
          listed = listed;
          free = is_free w.before w.this w.after once (rw found.0 at ((free_only room a sound f.before f.this f.after fits.stands).only w.this.row listed));
        };
        wide = rw found.2 at fits.wide;
      }

  -- the row is never missing, and its item is free and wide enough
  pub fits_found : (w : Focus Item) × (find_item row [] f.this.items ≡ some w) × Chosen a asked f w
  fits_found = go (find_item row [] f.this.items) refl (find_item_lem row [] f.this.items) where
    go : (o : Option (Focus Item)) → find_item row [] f.this.items ≡ o → FoundItem row f.this.items f.this.items o
        → (w : Focus Item) × (find_item row [] f.this.items ≡ some w) × Chosen a asked f w
    go none e out = absurd (out (free_row f.this.items row ((free_only room a sound f.before f.this f.after fits.stands).only row fits.listed)))
    go (some w) e found = (w, e, chosen w found)

-- ---- a request's outcome

-- what is to hold of the live record and the atlas of a grant; nothing is asked of a refusal
abbrev pub Grants : (Live → Atlas → Type 0) → Outcome (Given Live) → Type 0
Grants P (refused n) = Unit {0}
Grants P (gives g) = P g.told g.atlas

pub granted_so : (P : Live → Atlas → Type 0) (o : Outcome (Given Live)) (live : Live) (a : Atlas) → Grants P o → o ≡ grants live a → P live a
granted_so P o live a h e = subst (Grants P) e h

pub place_so : (a : Atlas) (asked : Asked) (P : Outcome (Given Live) → Type 0) (f : Focus Shelf) (w : Focus Item) (below : List Shelf) (r : Rows)
    → (splits_item asked w.this ≡ true → P (grants (live_of a.limits f.this (granted_item w.this asked.width))
    (record { limits = a.limits; shelves = back_onto f.before (grant_part r f.this w asked.width ∷ below); rows = item_taken r })))
    → (splits_item asked w.this ≡ false → P (grants (live_of a.limits f.this (granted_item w.this w.this.width))
    (record { limits = a.limits; shelves = back_onto f.before (grant_whole f.this w ∷ below); rows = r })))
    → P (grant_item a asked f w below r)
unfolding grant_item
place_so a asked P f w below r part whole = pick_cases P (splits_item asked w.this) _ _ part whole

-- what holds of a request's outcome, where it holds of each way
module _ (room : Room) (a : Atlas) (sound : Sound room a) (asked : Asked) (P : Outcome (Given Live) → Type 0)
    (no_place : search asked a.shelves ≡ nothing → P (refused 6))
    (no_row : P (refused 7))
    (split : (f : Focus Shelf) (w : Focus Item) → Chosen a asked f w → splits_shelf asked f.this ≡ true
    → P (grant_item a asked (record { before = f.before; this = upper_part asked.depth f.this; after = f.after }) w
    (lower_part a.limits a.rows asked.depth f.this ∷ f.after) (item_taken (shelf_taken a.rows))))
    (unsplit : (f : Focus Shelf) (w : Focus Item) → Chosen a asked f w → splits_shelf asked f.this ≡ false → P (grant_item a asked f w f.after a.rows)) where
  in_so : (f : Focus Shelf) (w : Focus Item) → Chosen a asked f w → P (grant_in_shelf room a asked f w)
  unfolding grant_in_shelf
  in_so f w c =
      pick_cases P (too_few_rows room a.rows (splits_shelf asked f.this) (splits_item asked w.this)) _ _ (λ e. no_row)
      (λ e. pick_cases P (splits_shelf asked f.this) _ _ (split f w c) (unsplit f w c))

  at_so : (f : Focus Shelf) (row : ℕ) → Fits asked a.shelves f row → P (grant_row room a asked f row)
  unfolding grant_row
  at_so f row fits = let (w, e, c) = fits_found room a sound asked f row fits in rw (e, grant_row) (in_so f w c)

  pub grant_so : P (grant room a asked)
  unfolding grant
  grant_so = go (search asked a.shelves) refl (search_holding asked a.shelves) where
    go : (h : Held) → search asked a.shelves ≡ h → Holding asked a.shelves h
        → P (elim h [ nothing ↦ refused 6 | good f row ↦ grant_row room a asked f row | bad f row ↦ grant_row room a asked f row ])
    go nothing e fits = no_place e
    go (good f row) e fits = at_so f row fits
    go (bad f row) e fits = at_so f row fits
