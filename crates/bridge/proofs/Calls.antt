-- What each call comes to: where the audit passes, the steps over header and tables answer and leave what the rules say of the atlas that is met
-- there. These are the statements that other crates cite. Assumes nothing.
use Rattle.std.specs.Prelude.{◌*◌, ◌≤◌, ◌≡◌}
use Rattle.numbers.specs.Library.{ℕ, refl, true, false, List, eqb}
use Rattle.numbers.specs.Prelude.{pick, Placeable, columns, WithinLimits, space_left}
use Rattle.numbers.specs.declared.{limits.Limits.Limits, request.Asked.Asked}
use Rattle.rows.specs.Prelude.{rows, items, shelves}
use Rattle.rows.specs.declared.header.Header.{Header}
use Rattle.rules.specs.Prelude.{Atlas, occupied, fresh, refused, gives, grants, grant, release_found, release, look_up, list, free_space, size_x, size_y, all_empty}
use Rattle.rules.specs.Prelude.{room_in, atlas_in, Passes, PassesForClear, Becomes}
use Rattle.laws.specs.Same.{SameUsed}
use Rattle.laws.proofs.Stored.Reading.{reads, formed}
use Rattle.rows.specs.State.{state}
use Rattle.init.specs.Init.{fresh_header, fresh_shelf_table, fresh_item_table}
use Rattle.search.specs.Search.{search, nothing, IsHeld}
use Rattle.plan.specs.Plan.{plan_at, has_rows}
use Rattle.live_rows.specs.Live.{at_row, is_live_of, live_at, is_vacant, LiveRowsThere, rows_listed}
use Rattle.grant.specs.Grant.{PlanThere, grant_at}
use Rattle.merge.specs.Merge.{release_at}
use Rattle.merge.specs.Releasable.{Releasable}
use Rattle.search.specs.declared.Place.{Place}
use Rattle.bridge.proofs.Outcome as outcome
use Rattle.bridge.proofs.CreateClear as create-clear
use Rattle.bridge.proofs.Queries as queries
use Rattle.bridge.proofs.PlaceOrRefusal as place-or-refusal
use Rattle.bridge.proofs.Grant as whole-grant
use Rattle.bridge.proofs.Release as whole-release

-- ---- what a call leaves

-- outcomes with the same atlas have the same header and the same used rows, whatever stood in the tables before
pub same_outcome : (S₁ I₁ S₂ I₂ : List ℕ) (h₁ h₂ : Header) (S₁' I₁' S₂' I₂' : List ℕ) (a' : Atlas)
    → Becomes S₁ I₁ h₁ S₁' I₁' a' → Becomes S₂ I₂ h₂ S₂' I₂' a' → SameUsed h₁ h₂ S₁' S₂' I₁' I₂'
same_outcome = outcome.same_outcome

-- any two outcomes that a promise allows are the same
pub one_outcome : (S I : List ℕ) (h₁ h₂ : Header) (S₁ I₁ S₂ I₂ : List ℕ) (a' : Atlas) → Becomes S I h₁ S₁ I₁ a' → Becomes S I h₂ S₂ I₂ a' → (h₁ ≡ h₂) × (S₁ ≡ S₂) × (I₁ ≡ I₂)
one_outcome = outcome.one_outcome

-- ---- create and clear

pub create_becomes : (l : Limits) (S I : List ℕ) → WithinLimits l → columns l ≤ rows shelves S → columns l ≤ rows items I
    → Becomes S I (fresh_header l (columns l)) (fresh_shelf_table l (columns l) S) (fresh_item_table l (columns l) I) (fresh l)
create_becomes = create-clear.create_becomes

pub clear_becomes : (h : Header) (S I : List ℕ) → PassesForClear h S I
    → Becomes S I (fresh_header h.limits (columns h.limits)) (fresh_shelf_table h.limits (columns h.limits) S) (fresh_item_table h.limits (columns h.limits) I) (fresh h.limits)
clear_becomes = create-clear.clear_becomes

-- ---- allocate

-- the atlas that is met has the limits that the header says
pub limits_are : (h : Header) (S I : List ℕ) → (atlas_in h S I).limits ≡ h.limits
unfolding atlas_in
limits_are h S I = refl

module _ (h : Header) (S I : List ℕ) (p : Passes h S I) (q : Asked) where
  pub grant_nothing : search h S I q ≡ nothing → grant (room_in S I) (atlas_in h S I) q ≡ refused 6
  grant_nothing = place-or-refusal.refuses_6 h S I (atlas_in h S I) (reads h S I p) (formed h S I p) q

  pub grant_few : (at : Place) → IsHeld at (search h S I q) → has_rows h S I (plan_at h S I at q) ≡ false → grant (room_in S I) (atlas_in h S I) q ≡ refused 7
  grant_few at o =
      place-or-refusal.refuses_7 h S I (atlas_in h S I) (reads h S I p) (formed h S I p) q at (place-or-refusal.place_held h S I (atlas_in h S I) (reads h S I p) (formed h S I p) q at o)

  pub grant_placed : Placeable h.limits q → (at : Place) → IsHeld at (search h S I q) → has_rows h S I (plan_at h S I at q) ≡ true
      → (a' : Atlas)
      × (grant (room_in S I) (atlas_in h S I) q ≡ grants (plan_at h S I at q).live a')
      × Becomes S I (grant_at (state h S I) (plan_at h S I at q)).header (grant_at (state h S I) (plan_at h S I at q)).shelves (grant_at (state h S I) (plan_at h S I at q)).items a'
  grant_placed within at o =
      whole-grant.grant_done h S I (atlas_in h S I) (reads h S I p) (formed h S I p) q at (place-or-refusal.place_held h S I (atlas_in h S I) (reads h S I p) (formed h S I p) q at o) (rw limits_are within)

  -- what the grant relies on
  pub grant_there : (at : Place) → IsHeld at (search h S I q) → PlanThere S I (plan_at h S I at q)
  grant_there at o =
      whole-grant.plan_there h S I (atlas_in h S I) (reads h S I p) (formed h S I p) q at (place-or-refusal.place_held h S I (atlas_in h S I) (reads h S I p) (formed h S I p) q at o)

-- ---- release and look-up

module _ (h : Header) (S I : List ℕ) (p : Passes h S I) (row generation : ℕ) where
  pub release_none : is_live_of h I row generation ≡ false → release (atlas_in h S I) row generation ≡ refused 8
  release_none = queries.release_none h S I p row generation

  -- what a release asks
  pub releasable : is_live_of h I row generation ≡ true → Releasable h S I (at_row row)
  releasable e =
      let (w, f, found, live) = queries.finds_live h S I p row generation e in
      whole-release.releasable h S I (atlas_in h S I) (reads h S I p) (formed h S I p) row w found live

  pub release_done : is_live_of h I row generation ≡ true
      → (a' : Atlas)
      × (release (atlas_in h S I) row generation ≡ gives a')
      × Becomes S I (release_at (state h S I) (at_row row)).header (release_at (state h S I) (at_row row)).shelves (release_at (state h S I) (at_row row)).items a'
  unfolding release
  release_done e =
      let (spot, finds, found, live) = queries.finds_live h S I p row generation e in
      (release_found (atlas_in h S I) spot, rw (finds, release), whole-release.release_becomes h S I (atlas_in h S I) (reads h S I p) (formed h S I p) row spot found live)

  pub look_none : is_live_of h I row generation ≡ false → look_up (atlas_in h S I) row generation ≡ refused 8
  look_none = queries.look_none h S I p row generation

  pub look_some : is_live_of h I row generation ≡ true → look_up (atlas_in h S I) row generation ≡ gives (live_at h S I row)
  look_some = queries.look_some h S I p row generation

-- ---- list, totals, size, is_empty

module _ (h : Header) (S I : List ℕ) (p : Passes h S I) where
  -- each row that is read for a live item, in a release, a look-up or a list, is there
  pub rows_there : LiveRowsThere h S I
  rows_there = queries.rows_there h S I p

  pub list_is : list (atlas_in h S I) ≡ rows_listed h S I h.used_items
  list_is = queries.list_is h S I p

  pub occupied_is : occupied (atlas_in h S I).shelves ≡ h.occupied
  occupied_is = queries.occupied_is h S I p

  pub occupied_fits : h.occupied ≤ h.limits.width * h.limits.height
  occupied_fits = queries.occupied_fits h S I p

  pub free_is : free_space (atlas_in h S I) ≡ space_left h.limits h.occupied
  free_is = queries.free_is h S I p

  pub empty_is : all_empty (atlas_in h S I).shelves ≡ is_vacant h
  empty_is = queries.empty_is h S I p

  pub size_x-is : size_x (atlas_in h S I) ≡ pick (eqb h.limits.vertical 1) h.limits.height h.limits.width
  size_x-is = queries.size_x-is h S I p

  pub size_y-is : size_y (atlas_in h S I) ≡ pick (eqb h.limits.vertical 1) h.limits.width h.limits.height
  size_y-is = queries.size_y-is h S I p
