-- Lists one after the other: around a place, and what their elements have, singly and in pairs. Assumes nothing.
use Rattle.std.specs.Prelude.{◌≡◌, ◌∷◌, ◌++◌}
use Rattle.numbers.specs.Library.{refl, ◌∙◌, List, [], append_assoc, append-nil}
use Rattle.chains.specs.Prelude.{Each, back_onto}
use Rattle.chains.proofs.Prelude.{each_map, each_both}
use Rattle.laws.specs.Lives.{flat, Pairs}

-- ---- around a place

pub flat_onto : {A B : Type 0} (f : A → List B) (bs ys : List A) → flat f (back_onto bs ys) ≡ flat f (back_onto bs []) ++ flat f ys
flat_onto f [] ys = refl
flat_onto f (b ∷ bs) ys =
    flat_onto f bs (b ∷ ys) ∙ rw (flat_onto f bs (b ∷ []), append_assoc (flat f (back_onto bs [])) (f b ++ []) (flat f ys), append-nil (f b))

-- the same at the place, the same in all
pub flat_same : {A B : Type 0} (f : A → List B) (bs us vs : List A) → flat f us ≡ flat f vs → flat f (back_onto bs us) ≡ flat f (back_onto bs vs)
flat_same f bs us vs e = rw (flat_onto f bs us, flat_onto f bs vs, e)

-- ---- what each has, and each and each later one

pub each_append : {A : Type 0} (P : A → Type 0) (xs ys : List A) → Each P xs → Each P ys → Each P (xs ++ ys)
each_append P [] ys ex ey = ey
each_append P (x ∷ xs) ys ex ey = (ex.0, each_append P xs ys ex.1 ey)

pub each_flat : {A B : Type 0} (f : A → List B) (P : B → Type 0) (xs : List A) → Each (λ x. Each P (f x)) xs → Each P (flat f xs)
each_flat f P [] e = tt
each_flat f P (x ∷ xs) e = each_append P (f x) (flat f xs) e.0 (each_flat f P xs e.1)

module _ {A : Type 0} (R : A → A → Type 0) where
  pub pairs_append : (xs ys : List A) → Pairs R xs → Pairs R ys → Each (λ x. Each (R x) ys) xs → Pairs R (xs ++ ys)
  pairs_append [] ys px py e = py
  pairs_append (x ∷ xs) ys px py e = (each_append (R x) xs ys px.0 e.0, pairs_append xs ys px.1 py e.1)

pub pairs_map : {A : Type 0} (R Q : A → A → Type 0) → ((x y : A) → R x y → Q x y) → (xs : List A) → Pairs R xs → Pairs Q xs
pairs_map R Q h [] p = tt
pairs_map R Q h (x ∷ xs) p = (each_map (R x) (Q x) (h x) xs p.0, pairs_map R Q h xs p.1)

-- where each element has P, pairs may rest on it
pub pairs_with : {A : Type 0} (P : A → Type 0) (R Q : A → A → Type 0) → ((x y : A) → P x → P y → R x y → Q x y) → (xs : List A) → Each P xs → Pairs R xs → Pairs Q xs
pairs_with P R Q h [] e p = tt
pairs_with P R Q h (x ∷ xs) e p =
    (each_map (λ y. P y × R x y) (Q x) (λ y w. h x y e.0 w.0 w.1) xs (each_both P (R x) xs e.1 p.0), pairs_with P R Q h xs e.1 p.1)

pub each_swap : {A B : Type 0} (Q : A → B → Type 0) (us : List A) (ys : List B) → Each (λ y. Each (λ u. Q u y) us) ys → Each (λ u. Each (Q u) ys) us
each_swap Q [] ys e = tt
each_swap Q (u ∷ us) ys e = (each_map (λ y. Each (λ u. Q u y) (u ∷ us)) (Q u) (λ y w. w.0) ys e, each_swap Q us ys (each_map (λ y. Each (λ u. Q u y) (u ∷ us)) (λ y. Each (λ u. Q u y) us) (λ y w. w.1) ys e))

-- all of one list with all of another
abbrev pub Across : {B : Type 0} → (B → B → Type 0) → List B → List B → Type 0
Across R us vs = Each (λ u. Each (R u) vs) us

pub pairs_flat : {A B : Type 0} (f : A → List B) (R : B → B → Type 0) (xs : List A) → Each (λ x. Pairs R (f x)) xs → Pairs (λ x y. Across R (f x) (f y)) xs → Pairs R (flat f xs)
pairs_flat f R [] e p = tt
pairs_flat f R (x ∷ xs) e p =
    pairs_append R (f x) (flat f xs) e.0 (pairs_flat f R xs e.1 p.1)
    (each_map (λ u. Each (λ y. Each (R u) (f y)) xs) (λ u. Each (R u) (flat f xs)) (λ u w. each_flat f (R u) xs w) (f x) (each_swap (λ u y. Each (R u) (f y)) (f x) xs p.0))
