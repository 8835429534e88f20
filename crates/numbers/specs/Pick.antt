-- A choice by a test. Assumes nothing.
use Rattle.std.specs.Prelude.{◌≡◌}
use Rattle.numbers.specs.Library.{refl, Bool, true, false}

-- the first where the test holds, else the second
abbrev pub pick {ℓ} : {X : Type ℓ} → Bool → X → X → X
pick true yes-value no_value = yes-value
pick false yes-value no_value = no_value

pub pick_yes : {X : Type 0} {b : Bool} (x y : X) → b ≡ true → pick b x y ≡ x
pick_yes x y e = rw e

pub pick_no : {X : Type 0} {b : Bool} (x y : X) → b ≡ false → pick b x y ≡ y
pick_no x y e = rw e

-- a function of the choice is the choice of its values
pub pick_ap : {X Y : Type 0} (f : X → Y) (b : Bool) (x y : X) → f (pick b x y) ≡ pick b (f x) (f y)
pick_ap f true x y = refl
pick_ap f false x y = refl

-- two equal values leave no choice
pub pick_same : {X : Type 0} (b : Bool) (x y : X) → y ≡ x → pick b x y ≡ x
pick_same true x y e = refl
pick_same false x y e = e
