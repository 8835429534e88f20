-- A test that says whether something holds, and what a branch on one tells. Assumes nothing.
use Rattle.std.specs.Prelude.{◌≡◌}
use Rattle.numbers.specs.Library.{refl, sym, Bool, true, false, not, false≢true}

-- the test says whether A holds
pub record Decides (test : Bool) (A : Type 0) : Type 0 where
  pub sound : test ≡ true → A
  pub complete : A → test ≡ true

pub never : {A : Type 0} → ◌≡◌ {A = Bool} false true → A
never e = absurd (false≢true e)

-- a test that failed rightly
pub refuted : {A : Type 0} → (A → ⊥) → Decides false A
refuted no' = record { sound = never; complete = λ a. absurd (no' a) }

-- a test that comes out as another one does
pub as_test : {A : Type 0} {test other : Bool} → test ≡ other → Decides other A → Decides test A
as_test e d = rw e d

-- where a branch found that the test failed, and where it found that it did not
pub failed : {A : Type 0} {test : Bool} → Decides test A → test ≡ false → A → ⊥
failed {test = true} d e a = never (sym e)
failed {test = false} d e a = never (d.complete a)

pub denied : {A : Type 0} {test : Bool} → Decides test A → not test ≡ true → A → ⊥
denied {test = true} d e a = never e
denied {test = false} d e a = failed d refl a

pub allowed : {A : Type 0} {test : Bool} → Decides test A → not test ≡ false → A
allowed {test = true} d e = d.sound refl
allowed {test = false} d e = never (sym e)
