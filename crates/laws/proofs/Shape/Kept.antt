-- What the atlas-level calls keep and what they find, in one place. Assumes nothing.
use Rattle.std.specs.Prelude.{◌≤◌, ◌+◌, ◌≡◌, ◌⊎◌, ◌&&◌, Ok}
use Rattle.numbers.specs.Library.{ℕ, zero, suc, refl, sym, ap, ◌∙◌, subst, ℤ, ⊎_elim, some, List, [], arith, eqb, eqb-true}
use Rattle.numbers.specs.declared.{limits.Limits.Limits, request.Asked.Asked}
use Rattle.rows.specs.declared.live.Live.{Live}
use Rattle.chains.specs.Prelude.{◌iff◌, Each, Focus}
use Rattle.rules.specs.Prelude.{Item, Shelf, Atlas, Room, occupied, fresh_shelf, fresh_shelves, fresh, list, nothing, good, bad, search, refused, find_item, live_of, grants, grant, Found, names}
use Rattle.rules.specs.Prelude.{find_live, release_found, Sound, Shaped, WellFormed}
use Rattle.laws.specs.Places.{Fits, Chosen, NoPlace, TooFew}
use Rattle.laws.specs.Lives.{flat, lives_on, lives, OneMore, NoPixelShared, Pairs, Inside, Enough, Covered, area, areas}
use Rattle.numbers.specs.Prelude.{both, columns, WithinLimits, Placeable}
use Rattle.numbers.specs.Prelude.{asked as request}
use Rattle.laws.proofs.Shape.Fresh.{rows-sound, fresh_shape}
use Rattle.laws.proofs.Shape.Finding.{Holding, search_holding, FoundLive, find_live_lem}
use Rattle.laws.proofs.Shape.Granting.{Grants, fits_found, granted_so, place_so, grant_so}
use Rattle.laws.proofs.Shape.NoPlace.{search_nothing, refuses_6}
use Rattle.laws.proofs.Shape.TooFew.{refuses_7}
use Rattle.laws.proofs.Shape.GrantShaped.{grant_shape}
use Rattle.laws.proofs.Shape.ReleaseShaped.{release_shape}
use Rattle.laws.proofs.Shape.LivesKept.{grant_adds, release_takes}
use Rattle.laws.proofs.Shape.RawSides as raw-sides
use Rattle.laws.proofs.Shape.ByRow.{below, nothing_below, list_below}
-- the list has an atlas's live records, by rising row
pub use Rattle.laws.proofs.Shape.ByRow.{list_rises, list_each, list_apart, list_areas, list_one_more}
use Rattle.laws.proofs.Shape.Rectangles.{all_inside, all_apart, occupied_is, one_more-area, grant_enough}

-- ---- a fresh atlas

pub fresh_shaped : (l : Limits) → WithinLimits l → Shaped (fresh l)
fresh_shaped = fresh_shape

pub fresh_sound : (room : Room) (l : Limits) → WithinLimits l → columns l ≤ room.shelves → columns l ≤ room.items → Sound room (fresh l)
fresh_sound room l w = rows-sound l room

-- it lists nothing
fresh_none : (l : Limits) (k n : ℕ) → flat (lives_on l) (fresh_shelves l k n) ≡ []
unfolding fresh_shelves fresh_shelf
fresh_none l k zero = refl
fresh_none l k (suc n) = fresh_none l (suc k) n

pub fresh_lists_none : (room : Room) (l : Limits) → WellFormed room (fresh l) → list (fresh l) ≡ []
unfolding fresh columns
fresh_lists_none room l formed =
    list_below room (fresh l) formed (columns l) (omega arith) ∙ ap (λ (ls : List Live). below ls (columns l)) (fresh_none l 0 (columns l)) ∙ nothing_below (columns l)

-- ---- the search

-- what it holds fits
pub search_holds : (asked : Asked) (shelves : List Shelf) (f : Focus Shelf) (row : ℕ) → (search asked shelves ≡ good f row) ⊎ (search asked shelves ≡ bad f row) → Fits asked shelves f row
search_holds asked shelves f row = ⊎_elim (λ e. subst (Holding asked shelves) e (search_holding asked shelves)) (λ e. subst (Holding asked shelves) e (search_holding asked shelves))

-- the row is there, and its item is free and wide enough
pub search_finds : (room : Room) (a : Atlas) (asked : Asked) (f : Focus Shelf) (row : ℕ) → WellFormed room a → Fits asked a.shelves f row
    → (w : Focus Item) × (find_item row [] f.this.items ≡ some w) × Chosen a asked f w
search_finds room a asked f row formed = fits_found room a formed.sound asked f row

-- "no place", exactly
pub no_place : (room : Room) (a : Atlas) (asked : Asked) → WellFormed room a → (search asked a.shelves ≡ nothing) iff NoPlace asked a.shelves
no_place room a asked formed = search_nothing room a formed asked

pub answers_6 : (room : Room) (a : Atlas) (asked : Asked) → WellFormed room a → (grant room a asked ≡ refused 6) iff NoPlace asked a.shelves
answers_6 room a asked formed =
    let (to, from) = refuses_6 room a formed asked in
    let (empty, held) = search_nothing room a formed asked in
    (λ e. empty (to e), λ n. from (held n))

-- "too few rows", exactly
pub answers_7 : (room : Room) (a : Atlas) (asked : Asked) → WellFormed room a → (grant room a asked ≡ refused 7) iff TooFew room a asked
answers_7 room a asked formed = refuses_7 room a formed asked

-- ---- a grant and a release

-- neither changes the limits
pub grant_limits : (room : Room) (a : Atlas) (asked : Asked) (live : Live) (a' : Atlas) → WellFormed room a → grant room a asked ≡ grants live a' → a'.limits ≡ a.limits
grant_limits room a asked live a' formed e =
    let Kept : Live → Atlas → Type 0 = λ live a'. a'.limits ≡ a.limits in
    granted_so Kept (grant room a asked) live a'
    (grant_so room a formed.sound asked (Grants Kept) (λ _. tt) tt
    (λ f w _ _. place_so a asked (Grants Kept) _ w _ _ (λ _. refl) (λ _. refl)) (λ f w _ _. place_so a asked (Grants Kept) f w f.after a.rows (λ _. refl) (λ _. refl))) e

pub release_limits : (a : Atlas) (w : Found) → (release_found a w).limits ≡ a.limits
unfolding release_found
release_limits a w = refl

pub grant_shaped : (room : Room) (a : Atlas) (asked : Asked) (live : Live) (a' : Atlas) → WellFormed room a → Placeable a.limits asked → grant room a asked ≡ grants live a' → Shaped a'
grant_shaped room a asked live a' formed within e =
    granted_so (λ live a'. Shaped a') (grant room a asked) live a' (grant_shape a asked formed.shaped.limits within room formed) e

pub release_shaped : (room : Room) (a : Atlas) (row generation : ℕ) (w : Found) → WellFormed room a → find_live a row generation ≡ some w → Shaped (release_found a w)
release_shaped room a row generation w formed e =
    release_shape room a formed row w (subst (FoundLive row generation a.shelves) e (find_live_lem a row generation)).0

-- ---- the live rectangles

-- they lie inside the atlas
pub lives_inside : (room : Room) (a : Atlas) → WellFormed room a → Each (Inside a.limits) (lives a)
lives_inside room a formed = all_inside a formed.shaped

-- no two share a pixel
pub lives_apart : (room : Room) (a : Atlas) → WellFormed room a → Pairs NoPixelShared (lives a)
lives_apart room a formed = all_apart a formed.shaped

-- what is granted covers the sides asked for
pub grant_covers : (room : Room) (a : Atlas) (asked : Asked) (live : Live) (a' : Atlas) → WellFormed room a → grant room a asked ≡ grants live a' → Enough a.limits asked live
grant_covers room a asked live a' formed e =
    granted_so (λ v a'. Enough a.limits asked v) (grant room a asked) live a' (grant_enough room a asked formed.sound) e

-- and, of a request's raw sides, these too
pub covers_raw : (l : Limits) (asked : Asked) → WithinLimits l → (w height : ℤ) (live : Live) → request l w height ≡ Ok asked → Enough l asked live → Covered w height live
covers_raw = raw-sides.covers_raw

-- a grant adds one and moves none
pub grant_lives : (room : Room) (a : Atlas) (asked : Asked) (live : Live) (a' : Atlas) → WellFormed room a → grant room a asked ≡ grants live a' → OneMore live (lives a) (lives a')
grant_lives room a asked live a' formed e = granted_so (λ v a'. OneMore v (lives a) (lives a')) (grant room a asked) live a' (grant_adds a asked room formed.sound) e

-- a release takes one away, of the row and the generation that are named, and moves none
pub release_lives : (a : Atlas) (row generation : ℕ) (w : Found) → find_live a row generation ≡ some w
    → ((live_of a.limits w.shelf.this w.item.this).row ≡ row)
    × ((live_of a.limits w.shelf.this w.item.this).generation ≡ generation)
    × OneMore (live_of a.limits w.shelf.this w.item.this) (lives (release_found a w)) (lives a)
unfolding live_of names
release_lives a row generation w e =
    let found : FoundLive row generation a.shelves (some w) = subst (FoundLive row generation a.shelves) e (find_live_lem a row generation) in
    let (same, live) = both (eqb row w.item.this.row && eqb generation w.item.this.generation) w.item.this.live found.1 in
    let (r, g) = both (eqb row w.item.this.row) (eqb generation w.item.this.generation) same in
    (sym (eqb-true row w.item.this.row r), sym (eqb-true generation w.item.this.generation g), release_takes a row w found.0 live)

-- ---- occupied

-- the sum of the live areas, in x and y too
pub occupied_lives : (a : Atlas) → occupied a.shelves ≡ areas (lives a)
occupied_lives a = occupied_is a.limits a.shelves

pub grant_occupied : (room : Room) (a : Atlas) (asked : Asked) (live : Live) (a' : Atlas) → WellFormed room a → grant room a asked ≡ grants live a'
    → occupied a'.shelves ≡ occupied a.shelves + area live
grant_occupied room a asked live a' formed e =
    omega (arith, one_more-area live (lives a) (lives a') (grant_lives room a asked live a' formed e), occupied_lives a, occupied_lives a')

pub release_occupied : (a : Atlas) (row generation : ℕ) (w : Found) → find_live a row generation ≡ some w
    → occupied (release_found a w).shelves + area (live_of a.limits w.shelf.this w.item.this) ≡ occupied a.shelves
release_occupied a row generation w e =
    omega (arith, one_more-area _ (lives (release_found a w)) (lives a) (release_lives a row generation w e).2, occupied_lives a, occupied_lives (release_found a w))
