-- The promise of load from what the code has seen. Assumes nothing.
use Rattle.std.specs.Prelude.{◌≤◌, ◌<◌, ◌≡◌, Err}
use Rattle.numbers.specs.Library.{ℕ, refl, sym, ap, ◌∙◌, Bool, true, not, List, length, get_or}
use Rattle.numbers.specs.Prelude.{Decides, denied, refusal_number}
use Rattle.numbers.specs.declared.refusal.Refusal.{Refusal}
use Rattle.rows.specs.Prelude.{rows, items, shelves, zero_header}
use Rattle.rows.specs.declared.header.Header.{Header}
use Rattle.rules.specs.Prelude.{Passes, refused, gives, mapped, Judged}
use Rattle.rules.specs.Step.{zeros}
use Rattle.promises.specs.Prelude.{replies}
use Rattle.promises.specs.Answers.{says, numbers_of}
use Rattle.promises.specs.declared.answers.Answered.{Answered}
use Rattle.image_form.specs.Bytes.{over}
use Rattle.image_form.specs.Tables.{stored_from}
use Rattle.image_form.proofs.Tables.{numbers, length-first, stored_over}
use Rattle.image_sizes.specs.Sizes.{SizesOf}
use Rattle.image_sizes.specs.declared.Sizes.{Sizes}
use Rattle.image_promises.specs.Promises.{HasRows, load_numbers, header_after, LoadedSo, Loads, wrong, few, copied}
use Rattle.image_read.specs.Right.{header_in, header_block, ImageRight, shelf_numbers, item_numbers}
use Rattle.image_read.proofs.Standing.{same_sizes, shelves_standing, items_standing, right_holds, Stands, holds_stands}

-- a refusal, with the all-zero header
pub load_refused : (e : Refusal) {r : Answered (Unit {0})} → r ≡ record { answer = Err e; header = zero_header } → LoadedSo r (refused (refusal_number e))
unfolding mapped replies says numbers_of zeros load_numbers header_after
load_refused e is = rw is (record { says = refl; numbers = refl; header = refl })

-- ---- 9, 7, and the rows copied

module _ (image : List ℕ) (small : (i : ℕ) → get_or image i 0 < 256) (S I : List ℕ) (r : Answered (Unit {0})) where
  pub loads_9 : {test : Bool} → Decides test (ImageRight image) → not test ≡ true → LoadedSo r (refused 9) → Loads image S I r S I
  loads_9 d e so =
      wrong (λ h shelf_rows item_rows has. let s = holds_stands image small has in denied d e (record { sizes = s.sizes; right = s.right })) so refl refl

  module _ (right : ImageRight image) {h : Header} (is : h ≡ header_in (header_block image)) where
    abbrev h₁ : Header
    h₁ = header_in (header_block image)

    pub loads_7 : (HasRows h S I → ⊥) → LoadedSo r (refused 7) → Loads image S I r S I
    loads_7 n so = few h₁ _ _ (right_holds image small right.right) (rw is at n) so refl refl

    module _ (has : HasRows h S I) {z : Sizes} (sized : SizesOf h z) where
      module _ (S' I' : List ℕ) (shelves-copied : S' ≡ over (shelf_numbers image h z) S) (items-copied : I' ≡ over (item_numbers image h z) I) where
        stands : Stands image h₁ (shelves_standing image small right.right) (items_standing image small right.right)
        stands = holds_stands image small (right_holds image small right.right)

        same : z ≡ stands.sizes
        same = same_sizes (rw is at sized) stands.right.sized

        stored_shelves : S' ≡ stored_from shelves 0 (shelves_standing image small right.right) S
        stored_shelves =
            let fit : length (shelves_standing image small right.right) ≤ rows shelves S = rw (length-first shelves, ← is) has.shelf_room in
            let same_numbers : shelf_numbers image h z ≡ numbers shelves (shelves_standing image small right.right) = rw (is, same) stands.shelf_numbers_lem in
            shelves-copied ∙ ap (λ (n : List ℕ). over n S) same_numbers ∙ sym (stored_over shelves _ S fit)

        stored_items : I' ≡ stored_from items 0 (items_standing image small right.right) I
        stored_items =
            let fit : length (items_standing image small right.right) ≤ rows items I = rw (length-first items, ← is) has.item_room in
            let same_numbers : item_numbers image h z ≡ numbers items (items_standing image small right.right) = rw (is, same) stands.item_numbers_lem in
            items-copied ∙ ap (λ (n : List ℕ). over n I) same_numbers ∙ sym (stored_over items _ I fit)

        pub loads : Judged (Passes h S' I') (LoadedSo r) (refused 3) (gives h) → Loads image S I r S' I'
        loads j = copied h₁ _ _ (right_holds image small right.right) (rw is at has) stored_shelves stored_items (rw is at j)
