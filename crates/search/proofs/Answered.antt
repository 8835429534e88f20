-- What a caller learns of the place that a search answers: there is one exactly where one is held. Assumes nothing.
use Rattle.std.specs.Prelude.{◌≡◌, None, Some}
use Rattle.std.proofs.lemmas.Option.{none-some}
use Rattle.numbers.specs.Library.{refl, sym, inl, inr}
use Rattle.search.specs.declared.Place.{Place}
use Rattle.search.specs.Search.{Held, nothing, good, bad, place_of, IsHeld}

pub none_held : (held : Held) → place_of held ≡ None → held ≡ nothing
unfolding place_of
none_held nothing e = refl
none_held (good p depth) e = absurd (none-some p (sym e))
none_held (bad p) e = absurd (none-some p (sym e))

pub some_held : (p : Place) (held : Held) → place_of held ≡ Some p → IsHeld p held
unfolding place_of
some_held p nothing e = absurd (none-some p e)
some_held p (good r depth) e = inl (depth, cc)
some_held p (bad r) e = inr cc
