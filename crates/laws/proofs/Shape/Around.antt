-- Lists around a place in them: what each element and the next have, while one changes or two become one. Assumes nothing.
use Rattle.std.specs.Prelude.{◌≡◌, ◌∷◌}
use Rattle.numbers.specs.Library.{refl, Bool, true, false, List, []}
use Rattle.numbers.specs.Prelude.{pick}
use Rattle.chains.specs.Prelude.{Neighbours, back_onto}

-- ---- choices

-- a choice that is known. (`rw e` with e : i.live ≡ b would take the record i apart.)
pub known_yes : {X : Type 0} (P : X → Type 0) (b : Bool) (x y : X) → b ≡ true → P x → P (pick b x y)
known_yes P b x y e p = rw e p

pub known_no : {X : Type 0} (P : X → Type 0) (b : Bool) (x y : X) → b ≡ false → P y → P (pick b x y)
known_no P b x y e p = rw e p

-- a choice by both ways
pub pick_cases : {X : Type 0} (P : X → Type 0) (b : Bool) (x y : X) → (b ≡ true → P x) → (b ≡ false → P y) → P (pick b x y)
pick_cases P true x y f g = f refl
pick_cases P false x y f g = g refl

pub pick_map : (b : Bool) (A A' B B' : Type 0) → (A → A') → (B → B') → pick b A B → pick b A' B'
pick_map true A A' B B' f g x = f x
pick_map false A A' B B' f g x = g x

-- ---- each element and the next

module _ {A : Type 0} (R : A → A → Type 0) where
  -- those before a place, the nearest first
  abbrev pub Behind : List A → A → Type 0
  Behind [] y = Unit {0}
  Behind (b ∷ bs) y = R b y × Behind bs b

  pub neighbours_split : (bs : List A) (y : A) (ys : List A) → Neighbours R (back_onto bs (y ∷ ys)) → Behind bs y × Neighbours R (y ∷ ys)
  neighbours_split [] y ys n = (tt, n)
  neighbours_split (b ∷ bs) y ys n = let (h, t) = neighbours_split bs b (y ∷ ys) n in ((t.0, h), t.1)

  pub neighbours_join : (bs : List A) (y : A) (ys : List A) → Behind bs y → Neighbours R (y ∷ ys) → Neighbours R (back_onto bs (y ∷ ys))
  neighbours_join [] y ys h n = n
  neighbours_join (b ∷ bs) y ys h n = neighbours_join bs b (y ∷ ys) h.1 (h.0, n)

  pub neighbours_after : (y : A) (ys : List A) → Neighbours R (y ∷ ys) → Neighbours R ys
  neighbours_after y [] n = tt
  neighbours_after y (x ∷ ys) n = n.1

  pub behind_map : (bs : List A) (y z : A) → ((b : A) → R b y → R b z) → Behind bs y → Behind bs z
  behind_map [] y z h q = tt
  behind_map (b ∷ bs) y z h q = (h b q.0, q.1)

  pub ahead_map : (y z : A) (ys : List A) → ((b : A) → R y b → R z b) → Neighbours R (y ∷ ys) → Neighbours R (z ∷ ys)
  ahead_map y z [] h n = tt
  ahead_map y z (x ∷ ys) h n = (h x n.0, n.1)

  -- an element that goes with any other
  pub behind_any : (bs : List A) (y z : A) → ((b : A) → R b z) → Behind bs y → Behind bs z
  behind_any bs y z h = behind_map bs y z (λ b q. h b)

  pub ahead_any : (z : A) (ys : List A) → ((b : A) → R z b) → Neighbours R ys → Neighbours R (z ∷ ys)
  ahead_any z [] h n = tt
  ahead_any z (x ∷ ys) h n = (h x, n)

  -- half way through a change: nothing is said yet of the element at the place and the one before it
  abbrev pub Inner : List A → Type 0
  Inner [] = Unit {0}
  Inner (b ∷ bs) = Behind bs b

  abbrev pub Half : List A → A → List A → Type 0
  Half bs y ys = Inner bs × Neighbours R (y ∷ ys)

  pub inner : (bs : List A) (y : A) → Behind bs y → Inner bs
  inner [] y h = tt
  inner (b ∷ bs) y h = h.1

  -- before another element at the place: the same behind it
  pub half : (bs : List A) (y z : A) (ys zs : List A) → Neighbours R (back_onto bs (y ∷ ys)) → (Neighbours R ys → Neighbours R (z ∷ zs)) → Half bs z zs
  half bs y z ys zs n h = let (b, a) = neighbours_split bs y ys n in (inner bs y b, h (neighbours_after y ys a))

  -- and the whole again: where it goes with the one before it, or the two become one
  pub whole : (b : A) (bs : List A) (y : A) (ys : List A) → R b y → Half (b ∷ bs) y ys → Neighbours R (back_onto (b ∷ bs) (y ∷ ys))
  whole b bs y ys r h = neighbours_join (b ∷ bs) y ys (r, h.0) h.1

  pub whole_joined : (b : A) (bs : List A) (y z : A) (ys : List A) → ((p : A) → R p b → R p z) → ((n : A) → R y n → R z n)
      → Half (b ∷ bs) y ys → Neighbours R (back_onto bs (z ∷ ys))
  whole_joined b bs y z ys hp hn h = neighbours_join bs z ys (behind_map bs b z hp h.0) (ahead_map y z ys hn h.1)
