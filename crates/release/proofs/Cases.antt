-- The cases of release, over variables: from what the code has seen follows the part of its promise that is met. Assumes nothing.
use Rattle.std.specs.Prelude.{◌≡◌, Ok, Err}
use Rattle.numbers.specs.Library.{ℕ, refl, ap, Bool, true, false, not, List}
use Rattle.numbers.specs.Prelude.{Decides}
use Rattle.numbers.specs.declared.refusal.Refusal.TheVariants as refusal
use Rattle.rows.specs.declared.header.Header.{Header}
use Rattle.rules.specs.Prelude.{mapped, Passes, Release, is_create, tells, step_in, step_without, Asks}
use Rattle.rules.specs.Step as told
use Rattle.rows.specs.State.{State, state}
use Rattle.live_rows.specs.Live.{at_row, is_live_of}
use Rattle.merge.specs.Merge.{release_at}
use Rattle.bridge.proofs.Calls.{release_none, release_done}
use Rattle.promises.specs.Prelude.{says, replies, Releases}
use Rattle.promises.specs.declared.answers.Answered.{Answered}
use Rattle.promises.proofs.Numbered.{answered, release_numbered}
use Rattle.promises.proofs.Cases.{owed, fails_first, refuses, does}

module _ (h : Header) (S I : List ℕ) (row generation : ℕ) where
  pub releases_3 : {test : Bool} → Decides test (Passes h S I) → not test ≡ true → (r : Answered (Unit {0})) → r ≡ record { answer = Err refusal.Audit; header = h } → Releases h S I row generation r S I
  unfolding Releases Asks step_without is_create replies says
  releases_3 d e r is = rw is (fails_first (Release row generation) _ h S I d e refl refl (answered (release_numbered row generation) (Err refusal.Audit) refl))

  module _ (p : Passes h S I) where
    pub releases_none : is_live_of h I row generation ≡ false → (r : Answered (Unit {0})) → r ≡ record { answer = Err refusal.NoSuchItem; header = h } → Releases h S I row generation r S I
    unfolding Releases Asks step_in mapped is_create replies says
    releases_none e r is =
        rw is (refuses (Release row generation) _ h S I (owed p) refl 8 (λ p. rw (release_none h S I p row generation e)) refl (answered (release_numbered row generation) (Err refusal.NoSuchItem) refl))

    pub releases_done : is_live_of h I row generation ≡ true → (header : Header) (S' I' : List ℕ) → state header S' I' ≡ release_at (state h S I) (at_row row)
        → Releases h S I row generation (record { answer = (Ok tt); header = header }) S' I'
    unfolding Releases Asks step_in mapped tells replies says
    releases_done e header S' I' are =
        does (Release row generation) _ h S I (owed p) header S' I' refl (λ p.
        let (a', is, becomes) = release_done h S I p row generation e in (
          tells a' told.done,
          rw is,
          answered (release_numbered row generation) (Ok tt) refl,
          rw (ap (λ (x : State). x.header) are, ap (λ (x : State). x.shelves) are, ap (λ (x : State). x.items) are) becomes,
        ))
