-- A batch is its single calls, one after the other: answers, header and every number of both tables. And any two outcomes of a batch are equal. Assumes nothing.
use Rattle.std.specs.Prelude.{◌≤◌, ◌≡◌, Ok}
use Rattle.numbers.specs.Library.{ℕ, refl, sym, ◌∙◌, List, arith}
use Rattle.rows.specs.Prelude.{rows}
use Rattle.rows.specs.declared.header.Header.{Header}
use Rattle.rules.specs.Prelude.{Passes, room_in, atlas_in}
use Rattle.bridge.proofs.Outcome.{one_outcome}
use Rattle.batch_rules.specs.Asked.{askings, tolds}
use Rattle.batch_rules.specs.Batch.{atlas_after, answers_after, ServesFirst, Refuses, Serves, Batches, fails, too_short, serves, OneByOne, start, then}
use Rattle.numbers.specs.declared.refusal.Refusal.{Refusal}
use Rattle.numbers.specs.declared.refusal.Refusal.TheVariants as refusal
use Rattle.promises.specs.declared.answers.Answered.{Answered}
use Rattle.batch_rules.proofs.Turns.{becomes_same, told_is, one_more}

-- what the first n requests leave can be left in one way only
first_once : (h : Header) (S I l out : List ℕ) (n : ℕ) (h₁ h₂ : Header) (S₁ I₁ out₁ S₂ I₂ out₂ : List ℕ)
    → ServesFirst h S I l out n h₁ S₁ I₁ out₁ → ServesFirst h S I l out n h₂ S₂ I₂ out₂ → (h₁ ≡ h₂) × (S₁ ≡ S₂) × (I₁ ≡ I₂) × (out₁ ≡ out₂)
first_once h S I l out n h₁ h₂ S₁ I₁ out₁ S₂ I₂ out₂ a b =
    let (header, shelves, items) = one_outcome S I h₁ h₂ S₁ I₁ S₂ I₂ (atlas_after (room_in S I) l (atlas_in h S I) n) a.becomes b.becomes in
    (header, shelves, items, a.output ∙ sym b.output)

-- single calls that keep their promises leave just that
pub singles_serve : (l : List ℕ) (h : Header) (S I out : List ℕ) → Passes h S I → (k : ℕ) (h₁ : Header) (S₁ I₁ out₁ : List ℕ) → OneByOne l h S I out k h₁ S₁ I₁ out₁
    → ServesFirst h S I l out k h₁ S₁ I₁ out₁
unfolding atlas_after answers_after
singles_serve l h S I out p k h₁ S₁ I₁ out₁ start = record { becomes = becomes_same h S I p; output = refl }
singles_serve l h S I out p k h₁ S₁ I₁ out₁ (then {k = j} {h₁ = h₀} {S₁ = S₀} {I₁ = I₀} {out₁ = out₀} before t h₂ S₂ I₂ promise) =
    let so : ServesFirst h S I l out j h₀ S₀ I₀ out₀ = singles_serve l h S I out p j h₀ S₀ I₀ out₀ before in
    record {
      becomes = one_more l h S I j so.becomes t h₂ S₂ I₂ promise;
      output = rw (so.output, told_is l h S I j so.becomes t h₂ S₂ I₂ promise);
    }

-- "proved equal, answers, header and every number of both tables, to making the single calls one after the other"
pub batch_is_singles : (l : List ℕ) (h : Header) (S I out : List ℕ) (r : Answered ℕ) (S' I' out' : List ℕ) → Passes h S I → rows askings l ≤ rows tolds out → Batches h S I l out r S' I' out'
    → (h₁ : Header) (S₁ I₁ out₁ : List ℕ) → OneByOne l h S I out (rows askings l) h₁ S₁ I₁ out₁
    → (r.answer ≡ Ok (rows askings l)) × (r.header ≡ h₁) × (S' ≡ S₁) × (I' ≡ I₁) × (out' ≡ out₁)
batch_is_singles l h S I out r S' I' out' p room (fails n refused) h₁ S₁ I₁ out₁ singles = absurd (n p)
batch_is_singles l h S I out r S' I' out' p room (too_short q less refused) h₁ S₁ I₁ out₁ singles = absurd (omega (arith, room, less))
batch_is_singles l h S I out r S' I' out' p room (serves q enough all) h₁ S₁ I₁ out₁ singles =
    let (header, shelves, items, output) =
    first_once h S I l out (rows askings l) r.header h₁ S' I' out' S₁ I₁ out₁ all.served (singles_serve l h S I out p (rows askings l) h₁ S₁ I₁ out₁ singles) in
    (all.answer, header, shelves, items, output)

-- ---- any two outcomes

abbrev Same : Answered ℕ → List ℕ → List ℕ → List ℕ → Answered ℕ → List ℕ → List ℕ → List ℕ → Type 0
Same r S I out r' S' I' out' = (r ≡ r') × (S ≡ S') × (I ≡ I') × (out ≡ out')

module _ (h : Header) (S I l out : List ℕ) (r : Answered ℕ) (S₁ I₁ out₁ : List ℕ) (r' : Answered ℕ) (S₂ I₂ out₂ : List ℕ) where
  refused_once : (e : Refusal) → Refuses h S I out e r S₁ I₁ out₁ → Refuses h S I out e r' S₂ I₂ out₂ → Same r S₁ I₁ out₁ r' S₂ I₂ out₂
  refused_once e a b = (
    λ z. record { answer = (a.answer ∙ sym b.answer) z; header = (a.unchanged.header ∙ sym b.unchanged.header) z },
    a.unchanged.shelves ∙ sym b.unchanged.shelves,
    a.unchanged.items ∙ sym b.unchanged.items,
    a.output ∙ sym b.output,
  )

  served_once : Serves h S I l out r S₁ I₁ out₁ → Serves h S I l out r' S₂ I₂ out₂ → Same r S₁ I₁ out₁ r' S₂ I₂ out₂
  served_once a b =
      let (header, shelves, items, output) = first_once h S I l out (rows askings l) r.header r'.header S₁ I₁ out₁ S₂ I₂ out₂ a.served b.served in
      (λ z. record { answer = (a.answer ∙ sym b.answer) z; header = header z }, shelves, items, output)

  pub one_batch : Batches h S I l out r S₁ I₁ out₁ → Batches h S I l out r' S₂ I₂ out₂ → Same r S₁ I₁ out₁ r' S₂ I₂ out₂
  one_batch (fails n a) (fails m b) = refused_once refusal.Audit a b
  one_batch (fails n a) (too_short p less b) = absurd (n p)
  one_batch (fails n a) (serves p enough b) = absurd (n p)
  one_batch (too_short p less a) (fails n b) = absurd (n p)
  one_batch (too_short p less a) (too_short q more b) = refused_once refusal.TooShort a b
  one_batch (too_short p less a) (serves q enough b) = absurd (omega (arith, less, enough))
  one_batch (serves p enough a) (fails n b) = absurd (n p)
  one_batch (serves p enough a) (too_short q less b) = absurd (omega (arith, less, enough))
  one_batch (serves p enough a) (serves q room b) = served_once a b
