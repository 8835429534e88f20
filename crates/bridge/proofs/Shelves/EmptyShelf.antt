-- An empty shelf is one free item. Assumes nothing.
use Rattle.std.specs.Prelude.{◌≡◌, ◌∷◌}
use Rattle.numbers.specs.Library.{refl, Bool, true, false, not, false≢true, List, []}
use Rattle.rules.specs.Prelude.{Item, is_empty_of}

pub lone_item_lem : (is : List Item) → is_empty_of is ≡ true → (i : Item) × (is ≡ i ∷ []) × (i.live ≡ false)
unfolding is_empty_of
lone_item_lem [] e = absurd (false≢true e)
lone_item_lem (i ∷ []) e = (i, refl, not-true i.live e) where
  not-true : (b : Bool) → not b ≡ true → b ≡ false
  not-true true e = absurd (false≢true e)
  not-true false e = refl
lone_item_lem (i ∷ j ∷ is) e = absurd (false≢true e)
