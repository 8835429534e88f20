-- Any two outcomes that save and load allow are equal: the answer, the header, every number of both tables and every byte of the output. Assumes nothing.
use Rattle.std.specs.Prelude.{◌<◌, ◌≡◌, Result}
use Rattle.numbers.specs.Library.{ℕ, sym, ap, ◌∙◌, List, get_or, arith}
use Rattle.rows.specs.Prelude.{items, shelves}
use Rattle.rows.specs.declared.{header.Header.Header, shelf.ShelfRow.ShelfRow, item.ItemRow.ItemRow}
use Rattle.rules.specs.Prelude.{Passes, Outcome, refused, gives, Judged}
use Rattle.numbers.specs.declared.refusal.Refusal.{Refusal}
use Rattle.promises.specs.Answering.{apart, replies}
use Rattle.promises.specs.declared.answers.Answered.{Answered}
use Rattle.promises.proofs.Outcomes.{once}
use Rattle.image_form.specs.Tables.{stored_from}
use Rattle.image_form.proofs.Tables.{same_numbers}
use Rattle.image_promises.specs.Promises.{saving_says, SavedSo, Saves, Holds, LoadedSo, Loads, wrong, few, copied}
use Rattle.image_read.specs.Right.{shelf_numbers, item_numbers}
use Rattle.image_read.proofs.Standing.{same_sizes, Stands, holds_stands}

-- an image is a list of bytes
abbrev pub Bytes : List ℕ → Type 0
Bytes image = (i : ℕ) → get_or image i 0 < 256

-- ---- save

saving_apart : (r s : Result ℕ Refusal) → saving_says r ≡ saving_says s → r ≡ s
unfolding saving_says
saving_apart = apart (λ (n : ℕ). n) (λ n m e. e)

pub one_save : (h : Header) (S I out : List ℕ) (r₁ r₂ : Result ℕ Refusal) (out₁ out₂ : List ℕ) → Saves h S I out r₁ out₁ → Saves h S I out r₂ out₂ → (r₁ ≡ r₂) × (out₁ ≡ out₂)
unfolding Saves
one_save h S I out r₁ r₂ out₁ out₂ = once same where
  same : (o : Outcome (List ℕ)) → SavedSo out r₁ out₁ o → SavedSo out r₂ out₂ o → (r₁ ≡ r₂) × (out₁ ≡ out₂)
  same o a b = (saving_apart r₁ r₂ (a.says ∙ sym b.says), a.output ∙ sym b.output)

-- ---- load

module _ (image : List ℕ) (bytes : Bytes image) {h h' : Header} {ss ss' : List ShelfRow} {is is' : List ItemRow} (a : Holds image h ss is) (b : Holds image h' ss' is') where
  s : Stands image h ss is
  s = holds_stands image bytes a

  s' : Stands image h' ss' is'
  s' = holds_stands image bytes b

  -- an image is that of one header and one list of rows for each table
  pub one_header : h ≡ h'
  one_header = sym s.header ∙ s'.header

  same : s.sizes ≡ s'.sizes
  same = same_sizes s.right.sized s'.right.sized

  pub one_shelves : ss ≡ ss'
  one_shelves =
      let n : shelf_numbers image h s.sizes ≡ shelf_numbers image h' s'.sizes = λ t. shelf_numbers image (one_header t) (same t) in
      same_numbers shelves ss ss' (a.shelf_count ∙ ap (λ (g : Header). g.used_shelves) one_header ∙ sym b.shelf_count) (sym s.shelf_numbers_lem ∙ n ∙ s'.shelf_numbers_lem)

  pub one_items : is ≡ is'
  one_items =
      let n : item_numbers image h s.sizes ≡ item_numbers image h' s'.sizes = λ t. item_numbers image (one_header t) (same t) in
      same_numbers items is is' (a.item_count ∙ ap (λ (g : Header). g.used_items) one_header ∙ sym b.item_count) (sym s.item_numbers_lem ∙ n ∙ s'.item_numbers_lem)

pub loaded_once : {r₁ r₂ : Answered (Unit {0})} {o : Outcome Header} → LoadedSo r₁ o → LoadedSo r₂ o → r₁ ≡ r₂
loaded_once {r₁} {r₂} {o} a b =
    let answer = replies.apart r₁.answer r₂.answer (a.says ∙ sym b.says) in
    let header = a.header ∙ sym b.header in
    λ z. record { answer = answer z; header = header z }

pub one_load : (image : List ℕ) → Bytes image → (S I : List ℕ) (r₁ r₂ : Answered (Unit {0})) (S₁ I₁ S₂ I₂ : List ℕ) → Loads image S I r₁ S₁ I₁ → Loads image S I r₂ S₂ I₂
    → (r₁ ≡ r₂) × (S₁ ≡ S₂) × (I₁ ≡ I₂)
one_load image bytes S I r₁ r₂ S₁ I₁ S₂ I₂ (wrong n so s i) (wrong n' so' s' i') = (loaded_once so so', s ∙ sym s', i ∙ sym i')
one_load image bytes S I r₁ r₂ S₁ I₁ S₂ I₂ (wrong n so s i) (few h ss is has m so' s' i') = absurd (n h ss is has)
one_load image bytes S I r₁ r₂ S₁ I₁ S₂ I₂ (wrong n so s i) (copied h ss is has m s' i' j) = absurd (n h ss is has)
one_load image bytes S I r₁ r₂ S₁ I₁ S₂ I₂ (few h ss is has m so s i) (wrong n so' s' i') = absurd (n h ss is has)
one_load image bytes S I r₁ r₂ S₁ I₁ S₂ I₂ (few h ss is has m so s i) (few h' ss' is' has' m' so' s' i') = (loaded_once so so', s ∙ sym s', i ∙ sym i')
one_load image bytes S I r₁ r₂ S₁ I₁ S₂ I₂ (few h ss is has m so s i) (copied h' ss' is' has' m' s' i' j) = absurd (m (rw (one_header image bytes has has') m'))
one_load image bytes S I r₁ r₂ S₁ I₁ S₂ I₂ (copied h ss is has m s i j) (wrong n so' s' i') = absurd (n h ss is has)
one_load image bytes S I r₁ r₂ S₁ I₁ S₂ I₂ (copied h ss is has m s i j) (few h' ss' is' has' m' so' s' i') = absurd (m' (rw (one_header image bytes has' has) m))
one_load image bytes S I r₁ r₂ S₁ I₁ S₂ I₂ (copied h ss is has m s i j) (copied h' ss' is' has' m' s' i' j') =
    let same_shelves : S₁ ≡ S₂ = s ∙ ap (λ (rs : List ShelfRow). stored_from shelves 0 rs S) (one_shelves image bytes has has') ∙ sym s' in
    let same_items : I₁ ≡ I₂ = i ∙ ap (λ (rs : List ItemRow). stored_from items 0 rs I) (one_items image bytes has has') ∙ sym i' in
    let j'' : Judged (Passes h S₁ I₁) (LoadedSo r₂) (refused 3) (gives h) = rw (one_header image bytes has has', same_shelves, same_items) j' in
    (once (λ o a b. loaded_once a b) j j'', same_shelves, same_items)
