-- The three answers of a batch. Assumes nothing.
use Rattle.std.specs.Prelude.{◌≤◌, ◌<◌, ◌≡◌, Ok, Err}
use Rattle.numbers.specs.Library.{ℕ, refl, ap, Bool, true, false, not, List, arith}
use Rattle.numbers.specs.Prelude.{Decides, denied, allowed}
use Rattle.rows.specs.Prelude.{rows}
use Rattle.rows.specs.declared.header.Header.{Header}
use Rattle.rules.specs.Prelude.{Passes}
use Rattle.batch_rules.specs.Asked.{askings, tolds}
use Rattle.batch_rules.specs.Batch.{Refuses, ServesFirst, Batches, fails, too_short, serves}
use Rattle.numbers.specs.declared.refusal.Refusal.{Refusal}
use Rattle.numbers.specs.declared.refusal.Refusal.TheVariants as refusal
use Rattle.promises.specs.declared.answers.Answered.{Answered}

module _ (h : Header) (S I l out : List ℕ) {test : Bool} (audited : Decides test (Passes h S I)) where
  as_it_was : (e : Refusal) (r : Answered ℕ) → r ≡ record { answer = Err e; header = h } → Refuses h S I out e r S I out
  as_it_was e r is = rw is (record { answer = refl; unchanged = record { header = refl; shelves = refl; items = refl }; output = refl })

  pub answers_3 : not test ≡ true → (r : Answered ℕ) → r ≡ record { answer = Err refusal.Audit; header = h } → Batches h S I l out r S I out
  answers_3 failed r is = fails (denied audited failed) (as_it_was refusal.Audit r is)

  module _ (passed : not test ≡ false) (n room : ℕ) (n-is : n ≡ rows askings l) (room-is : room ≡ rows tolds out) where
    pub answers_10 : room < n → (r : Answered ℕ) → r ≡ record { answer = Err refusal.TooShort; header = h } → Batches h S I l out r S I out
    answers_10 less r is = too_short (allowed audited passed) (rw (n-is, room-is) at less) (as_it_was refusal.TooShort r is)

    pub serve_all_asks : n ≤ room → Passes h S I × (n ≤ rows askings l) × (n ≤ rows tolds out)
    serve_all_asks enough = (allowed audited passed, omega (arith, n-is), omega (arith, room-is))

    pub answers_all : n ≤ room → (h' : Header) (S' I' out' : List ℕ) → ServesFirst h S I l out n h' S' I' out' → Batches h S I l out (record { answer = Ok n; header = h' }) S' I' out'
    answers_all enough h' S' I' out' served =
        serves (allowed audited passed) (rw (n-is, room-is) at enough) (record { answer = ap Ok n-is; served = rw n-is at served })
