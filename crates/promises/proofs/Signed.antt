-- Signed numbers handed on, two and six of them: each reaches the callee through its bits, and is the number that was given. Assumes nothing.
use Rattle.std.specs.Prelude.{◌≡◌}
use Rattle.numbers.specs.Library.{ℤ, w32, SFits, to_z, of_z}
use Rattle.numbers.proofs.Signed.{as_given}

pub as_given_2 : {A : Type 0} (f : ℤ → ℤ → A) {r : A} {a b : ℤ} → SFits w32 a → SFits w32 b → r ≡ f (to_z w32 (of_z w32 a)) (to_z w32 (of_z w32 b)) → r ≡ f a b
as_given_2 f {a = a} {b = b} fits-a fits-b e = as_given (λ y. f a y) fits-b (as_given (λ x. f x (to_z w32 (of_z w32 b))) fits-a e)

pub as_given_6 : {A : Type 0} (f : ℤ → ℤ → ℤ → ℤ → ℤ → ℤ → A) {r : A} {a b c d k l : ℤ}
    → SFits w32 a → SFits w32 b → SFits w32 c → SFits w32 d → SFits w32 k → SFits w32 l
    → r ≡ f (to_z w32 (of_z w32 a)) (to_z w32 (of_z w32 b)) (to_z w32 (of_z w32 c)) (to_z w32 (of_z w32 d)) (to_z w32 (of_z w32 k)) (to_z w32 (of_z w32 l)) → r ≡ f a b c d k l
as_given_6 f {a = a} {b = b} {c = c} {d = d} {k = k} {l = l} fits-a fits-b fits-c fits-d fits-k fits-l e =
    as_given_2 (λ x y. f a b c d x y) fits-k fits-l
    (as_given_2 (λ x y. f a b x y (to_z w32 (of_z w32 k)) (to_z w32 (of_z w32 l))) fits-c fits-d
    (as_given_2 (λ x y. f x y (to_z w32 (of_z w32 c)) (to_z w32 (of_z w32 d)) (to_z w32 (of_z w32 k)) (to_z w32 (of_z w32 l))) fits-a fits-b e))
