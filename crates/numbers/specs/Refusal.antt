-- The refusals and their numbers in document 01's table. No two have the same number. Assumes nothing.
use Rattle.std.specs.Prelude.{◌≡◌, ℕ}
use Rattle.numbers.specs.Library.{ap, refl, sym, ◌∙◌, eqb}
use Rattle.numbers.specs.Pick.{pick}
use Rattle.numbers.specs.declared.refusal.Refusal.{Refusal}
use Rattle.numbers.specs.declared.refusal.Refusal.TheVariants.{Size, Options, Audit, Side, TooLarge, NoPlace, TooFewRows, NoSuchItem, Image, TooShort, NotReadable}

abbrev pub refusal_number : Refusal → ℕ
refusal_number Size = 1
refusal_number Options = 2
refusal_number Audit = 3
refusal_number Side = 4
refusal_number TooLarge = 5
refusal_number NoPlace = 6
refusal_number TooFewRows = 7
refusal_number NoSuchItem = 8
refusal_number Image = 9
refusal_number TooShort = 10
refusal_number NotReadable = 11

-- the refusal of a number from 1 to 11
of_number : ℕ → Refusal
of_number n =
    pick (eqb n 1) Size
    (pick (eqb n 2) Options
    (pick (eqb n 3) Audit
    (pick (eqb n 4) Side
    (pick (eqb n 5) TooLarge
    (pick (eqb n 6) NoPlace
    (pick (eqb n 7) TooFewRows
    (pick (eqb n 8) NoSuchItem
    (pick (eqb n 9) Image
    (pick (eqb n 10) TooShort NotReadable)))))))))

back : (e : Refusal) → of_number (refusal_number e) ≡ e
unfolding of_number
back Size = refl
back Options = refl
back Audit = refl
back Side = refl
back TooLarge = refl
back NoPlace = refl
back TooFewRows = refl
back NoSuchItem = refl
back Image = refl
back TooShort = refl
back NotReadable = refl

-- a number is one refusal's at most
pub same_number : (e f : Refusal) → refusal_number e ≡ refusal_number f → e ≡ f
same_number e f h = sym (back e) ∙ ap of_number h ∙ back f
