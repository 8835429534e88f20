-- The cases of each call but list, over variables: from what the code has seen follows the part of its promise that is met. Assumes nothing.
use Rattle.std.specs.Prelude.{◌≡◌, ◌≢◌, Ok, Err}
use Rattle.numbers.specs.Library.{ℕ, refl, Bool, true, false, not, List, eq-eqb, ne_eqb}
use Rattle.numbers.specs.Prelude.{Decides, space_left}
use Rattle.numbers.specs.declared.refusal.Refusal.TheVariants as refusal
use Rattle.rows.specs.declared.{header.Header.Header, live.Live.Live}
use Rattle.rules.specs.Prelude.{refused, gives, mapped, room_in, atlas_in, Passes, Call, LookUp, Occupied, FreeSpace, Size, IsEmpty, Value, area, sides, vacant}
use Rattle.rules.specs.Prelude.{is_create, tells, step_in, step_without, Answering, Asks}
use Rattle.rules.specs.Step.{item}
use Rattle.live_rows.specs.Live.{is_live_of, live_at, is_vacant}
use Rattle.bridge.proofs.Calls.{look_none, look_some, occupied_is, free_is, empty_is, size_x-is, size_y-is}
use Rattle.promises.specs.Prelude.{says, grants, areas, extents, vacancies, Tells, LooksUp, TellsOccupied, TellsFreeSpace, TellsSize, TellsEmpty}
use Rattle.promises.proofs.Numbered.{Numbered, answered, look_up_numbered, occupied_numbered, free_space_numbered, size_numbered, is_empty_numbered}
use Rattle.promises.proofs.Cases.{stays, owed, fails_first, refuses, does}

module _ (h : Header) (S I : List ℕ) {test : Bool} (d : Decides test (Passes h S I)) where
  -- ---- a call that asks for the audit and tells something of the atlas

  module _ {A : Type 0} (t : Answering A) (call : Call) (numbered : Numbered t call) (asks : Asks call h S I ≡ Passes h S I) where
    asked : Decides test (Asks call h S I)
    asked = rw asks d

    told_3 : not test ≡ true → step_without (room_in S I) call ≡ refused 3 → is_create call ≡ false → (r : A) → t.says r ≡ refused 3 → Tells t call h S I r
    told_3 e is other r says = fails_first call _ h S I asked e is other (answered numbered r says)

    told : not test ≡ false → (r : A) (v : Value) → (Passes h S I → step_in (room_in S I) (atlas_in h S I) call ≡ gives (tells (atlas_in h S I) v)) → (Passes h S I → t.says r ≡ gives v)
        → Tells t call h S I r
    unfolding tells
    told e r v is says =
        does call _ h S I asked h S I e (λ a. let p : Passes h S I = rw asks at a in (tells (atlas_in h S I) v, is p, answered numbered r (says p), stays h S I p))

  pub looks_3 : (row generation : ℕ) → not test ≡ true → LooksUp h S I row generation (Err refusal.Audit)
  unfolding LooksUp Asks step_without is_create grants says
  looks_3 row generation e = told_3 grants (LookUp row generation) (look_up_numbered row generation) refl e refl refl (Err refusal.Audit) refl

  -- ---- totals, size and is_empty

  pub occupied_3 : not test ≡ true → TellsOccupied h S I (Err refusal.Audit)
  unfolding TellsOccupied Asks step_without is_create areas says
  occupied_3 e = told_3 areas Occupied occupied_numbered refl e refl refl (Err refusal.Audit) refl

  pub occupied_told : not test ≡ false → TellsOccupied h S I (Ok h.occupied)
  unfolding TellsOccupied Asks step_in areas says
  occupied_told e = told areas Occupied occupied_numbered refl e (Ok h.occupied) (area h.occupied) (λ p. rw (occupied_is h S I p)) (λ p. refl)

  pub free_3 : not test ≡ true → TellsFreeSpace h S I (Err refusal.Audit)
  unfolding TellsFreeSpace Asks step_without is_create areas says
  free_3 e = told_3 areas FreeSpace free_space_numbered refl e refl refl (Err refusal.Audit) refl

  pub free_told : not test ≡ false → (n : ℕ) → n ≡ space_left h.limits h.occupied → TellsFreeSpace h S I (Ok n)
  unfolding TellsFreeSpace Asks step_in areas says
  free_told e n is = told areas FreeSpace free_space_numbered refl e (Ok n) (area n) (λ p. rw (free_is h S I p, ← is)) (λ p. refl)

  pub empty_3 : not test ≡ true → TellsEmpty h S I (Err refusal.Audit)
  unfolding TellsEmpty Asks step_without is_create vacancies says
  empty_3 e = told_3 vacancies IsEmpty is_empty_numbered refl e refl refl (Err refusal.Audit) refl

  pub empty_told : not test ≡ false → (b : Bool) → b ≡ is_vacant h → TellsEmpty h S I (Ok b)
  unfolding TellsEmpty Asks step_in vacancies says
  empty_told e b is = told vacancies IsEmpty is_empty_numbered refl e (Ok b) (vacant b) (λ p. rw (empty_is h S I p, ← is)) (λ p. refl)

  pub size_3 : not test ≡ true → TellsSize h S I (Err refusal.Audit)
  unfolding TellsSize Asks step_without is_create extents says
  size_3 e = told_3 extents Size size_numbered refl e refl refl (Err refusal.Audit) refl

  pub size_upright : not test ≡ false → h.limits.vertical ≢ 1 → TellsSize h S I (Ok (record { width = h.limits.width; height = h.limits.height }))
  unfolding TellsSize Asks step_in extents says
  size_upright e n =
      told extents Size size_numbered refl e (Ok (record { width = h.limits.width; height = h.limits.height })) (sides h.limits.width h.limits.height) (λ p. rw (size_x-is h S I p, size_y-is h S I p, ne_eqb h.limits.vertical 1 n)) (λ p. refl)

  pub size_turned : not test ≡ false → h.limits.vertical ≡ 1 → TellsSize h S I (Ok (record { width = h.limits.height; height = h.limits.width }))
  unfolding TellsSize Asks step_in extents says
  size_turned e v =
      told extents Size size_numbered refl e (Ok (record { width = h.limits.height; height = h.limits.width })) (sides h.limits.height h.limits.width) (λ p. rw (size_x-is h S I p, size_y-is h S I p, eq-eqb h.limits.vertical 1 v)) (λ p. refl)

-- ---- an id, in tables that pass

module _ (h : Header) (S I : List ℕ) (p : Passes h S I) (row generation : ℕ) where
  pub looks_none : is_live_of h I row generation ≡ false → LooksUp h S I row generation (Err refusal.NoSuchItem)
  unfolding LooksUp Asks step_in mapped is_create grants says
  looks_none none =
      refuses (LookUp row generation) _ h S I (owed p) refl 8 (λ _. rw (look_none h S I p row generation none)) refl (answered (look_up_numbered row generation) (Err refusal.NoSuchItem) refl)

  pub looks_some : is_live_of h I row generation ≡ true → (v : Live) → v ≡ live_at h S I row → LooksUp h S I row generation (Ok v)
  unfolding LooksUp Asks step_in mapped grants says
  looks_some some v is =
      told h S I (owed p) grants (LookUp row generation) (look_up_numbered row generation) refl refl (Ok v) (item v) (λ _. rw (look_some h S I p row generation some, is)) (λ _. refl)
