-- The cases of a promise, over variables: a call is refused at its first check, refused later, or gives something. From what the code has seen
-- follows the part of its promise that is met. Assumes nothing.
use Rattle.std.specs.Prelude.{◌≡◌}
use Rattle.numbers.specs.Library.{ℕ, refl, Bool, true, false, not, List, ℤ}
use Rattle.numbers.specs.Prelude.{Decides, denied, allowed}
use Rattle.rows.specs.Prelude.{past_same, items, shelves, zero_header}
use Rattle.rows.specs.declared.header.Header.{Header}
use Rattle.rules.specs.Prelude.{Outcome, refused, gives, mapped, Given, room_in, atlas_in, Passes, make, Call, Create, Value, is_create, made_of, step_in}
use Rattle.rules.specs.Prelude.{step_without, step, Unchanged, Becomes, Leaves, header_kept, Asks, fails, passes, Promise}

pub unchanged : {h : Header} {S I : List ℕ} → Unchanged h S I h S I
unchanged = record { header = refl; shelves = refl; items = refl }

-- tables that pass hold the atlas that is met in them
pub stays : (h : Header) (S I : List ℕ) → Passes h S I → Becomes S I h S I (atlas_in h S I)
stays h S I p = record { passes = p; atlas = refl; shelves_past = past_same shelves _ S; items_past = past_same items _ I }

-- what follows from what is said of an outcome
pub said_so : (call : Call) (h : Header) (S I : List ℕ) (h' : Header) (S' I' : List ℕ) {Says Says' : Outcome Value → Type 0} → ((o : Outcome Value) → Says o → Says' o)
    → Promise call Says h S I h' S' I' → Promise call Says' h S I h' S' I'
unfolding Promise
said_so call h S I h' S' I' so (fails n had) = fails n (record { says = so _ had.says; leaves = had.leaves })
said_so call h S I h' S' I' so (passes p had) = passes p (record { says = so _ had.says; leaves = had.leaves })

-- what a caller owes, as a test that found it so: for the calls that make no audit
pub owed : {A : Type 0} → A → Decides true A
owed a = record { sound = λ e. a; complete = λ p. refl }

module _ (call : Call) (Says : Outcome Value → Type 0) (h : Header) (S I : List ℕ) where
  -- no create changes the header where it is refused
  refused_leaves : is_create call ≡ false → (n : ℕ) → Leaves call h S I h S I (refused n)
  unfolding Leaves header_kept
  refused_leaves e n = rw e unchanged

  module _ {test : Bool} (d : Decides test (Asks call h S I)) where
    -- the first check fails
    pub fails_first : not test ≡ true → step_without (room_in S I) call ≡ refused 3 → is_create call ≡ false → Says (refused 3) → Promise call Says h S I h S I
    unfolding Promise step mapped
    fails_first e is other says = fails (denied d e) (rw is (record { says = says; leaves = refused_leaves other 3 }))

    -- it passes, and a later one fails
    pub refuses : not test ≡ false → (n : ℕ) → (Asks call h S I → step_in (room_in S I) (atlas_in h S I) call ≡ refused n) → is_create call ≡ false → Says (refused n)
        → Promise call Says h S I h S I
    unfolding Promise step mapped
    refuses e n is other says = let p = allowed d e in passes p (rw (is p) (record { says = says; leaves = refused_leaves other n }))

    -- all pass
    pub does : (h' : Header) (S' I' : List ℕ) → not test ≡ false
        → (Asks call h S I → (g : Given Value) × (step_in (room_in S I) (atlas_in h S I) call ≡ gives g) × Says (gives g.told) × Becomes S I h' S' I' g.atlas)
        → Promise call Says h S I h' S' I'
    unfolding Promise step mapped Leaves
    does h' S' I' e had =
        let p = allowed d e in
        let (g, is, says, becomes) = had p in
        passes p (rw is (record { says = says; leaves = becomes }))

-- what create promises does not depend on the header that stood before it
pub create_any : (w h alignWidth alignHeight vertical columns : ℤ) (header : Header) (S I : List ℕ) (Says : Outcome Value → Type 0) (h' : Header) (S' I' : List ℕ)
    → Promise (Create w h alignWidth alignHeight vertical columns) Says zero_header S I h' S' I' → Promise (Create w h alignWidth alignHeight vertical columns) Says header S I h' S' I'
unfolding Promise Asks step step_in Leaves header_kept is_create
create_any w h alignWidth alignHeight vertical columns header S I Says h' S' I' (fails n had) = absurd (n tt)
create_any w h alignWidth alignHeight vertical columns header S I Says h' S' I' (passes p had) =
    passes tt (record { says = had.says; leaves = left (mapped made_of (make (room_in S I) w h alignWidth alignHeight vertical columns)) had.leaves }) where
      left : (o : Outcome (Given Value)) → Leaves (Create w h alignWidth alignHeight vertical columns) zero_header S I h' S' I' o
          → Leaves (Create w h alignWidth alignHeight vertical columns) header S I h' S' I' o
      left (refused n) u = u
      left (gives g) u = u
