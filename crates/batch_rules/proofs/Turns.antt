-- From request to request: what a run of requests leaves, and that any single calls that keep their promises leave the same. Assumes nothing.
use Rattle.std.specs.Prelude.{◌≡◌}
use Rattle.numbers.specs.Library.{ℕ, suc, refl, false, List, eqb}
use Rattle.rows.specs.Prelude.{past_more, past_then, past_same, get, items, shelves}
use Rattle.rows.specs.declared.header.Header.{Header}
use Rattle.rules.specs.Prelude.{Atlas, room_in, atlas_in, Passes, Outcome, refused, gives, Given, standing, Value, step_in, step, is_create, Unchanged, Becomes, Leaves, header_kept, Comes, Promise}
use Rattle.laws.proofs.Stored.Reading.{formed}
use Rattle.laws.proofs.Shape.Around.{pick_cases}
use Rattle.promises.proofs.Steps.{on_passing, same_room}
use Rattle.batch_rules.specs.Asked.{askings, call_of}
use Rattle.batch_rules.specs.Asked as asked
use Rattle.batch_rules.specs.Batch.{atlas_after, told_at}
use Rattle.batch_rules.specs.declared.{values.Asking.Asking, values.Told.Told}
use Rattle.batch_rules.proofs.Grows.{AsMany, request_many}

-- ---- what has become of the tables

-- what passes is what it is
pub becomes_same : (h : Header) (S I : List ℕ) → Passes h S I → Becomes S I h S I (atlas_in h S I)
becomes_same h S I p = record { passes = p; atlas = refl; shelves_past = past_same shelves _ S; items_past = past_same items _ I }

-- one change after another, in which no row goes out of use
then_becomes : (S I : List ℕ) {h₁ h₂ : Header} {S₁ I₁ S₂ I₂ : List ℕ} {a₁ a₂ : Atlas}
    → Becomes S I h₁ S₁ I₁ a₁ → Becomes S₁ I₁ h₂ S₂ I₂ a₂ → AsMany a₁.rows a₂.rows → Becomes S I h₂ S₂ I₂ a₂
then_becomes S I b c more = record {
  passes = c.passes;
  atlas = c.atlas;
  shelves_past = past_then shelves (past_more shelves _ more.shelves b.shelves_past) c.shelves_past;
  items_past = past_then items (past_more items _ more.items b.items_past) c.items_past;
}

-- no request is a create
no_create : (q : Asking) → is_create (call_of q) ≡ false
unfolding call_of is_create
no_create q =
    pick_cases (λ c. is_create c ≡ false) (eqb q.kind 1) _ _ (λ _. refl)
    (λ _. pick_cases (λ c. is_create c ≡ false) (eqb q.kind 2) _ _ (λ _. refl) (λ _. pick_cases (λ c. is_create c ≡ false) (eqb q.kind 3) _ _ (λ _. refl) (λ _. refl)))

-- ---- one more request: `h`, `S` and `I` before the first, `l` the requests

module _ (l : List ℕ) (h : Header) (S I : List ℕ) where
  abbrev After : ℕ → Header → List ℕ → List ℕ → Type 0
  After k h₁ S₁ I₁ = Becomes S I h₁ S₁ I₁ (atlas_after (room_in S I) l (atlas_in h S I) k)

  module _ (k : ℕ) {h₁ : Header} {S₁ I₁ : List ℕ} (b : After k h₁ S₁ I₁) where
    room_kept : room_in S₁ I₁ ≡ room_in S I
    room_kept = same_room S I S₁ I₁ b.shelves_past.as_long b.items_past.as_long

    module _ (t : Told) (h₂ : Header) (S₂ I₂ : List ℕ) (p : Promise (call_of (get askings l k)) (λ o. t ≡ asked.told_of o) h₁ S₁ I₁ h₂ S₂ I₂) where
      -- the outcome of the rules' step from the atlas that stands there
      comes : Comes (call_of (get askings l k)) (λ o. t ≡ asked.told_of o) h₁ S₁ I₁ h₂ S₂ I₂ (step_in (room_in S I) (atlas_after (room_in S I) l (atlas_in h S I) k) (call_of (get askings l k)))
      unfolding step
      comes = rw (room_kept, b.atlas) at (on_passing (call_of (get askings l k)) (λ o. t ≡ asked.told_of o) h₁ S₁ I₁ h₂ S₂ I₂ b.passes p)

      pub told_is : t ≡ told_at (room_in S I) l (atlas_in h S I) k
      unfolding told_at
      told_is = comes.says

      pub one_more : After (suc k) h₂ S₂ I₂
      unfolding atlas_after Leaves header_kept
      one_more =
          let a : Atlas = atlas_after (room_in S I) l (atlas_in h S I) k in
          let many : AsMany a.rows (standing a (step_in (room_in S I) a (call_of (get askings l k)))).rows =
          request_many (room_in S I) a (rw (room_kept, b.atlas) at (formed h₁ S₁ I₁ b.passes)) (get askings l k) in
          go (step_in (room_in S I) a (call_of (get askings l k))) many comes.leaves where
            go : (o : Outcome (Given Value)) → AsMany (atlas_after (room_in S I) l (atlas_in h S I) k).rows (standing (atlas_after (room_in S I) l (atlas_in h S I) k) o).rows
                → Leaves (call_of (get askings l k)) h₁ S₁ I₁ h₂ S₂ I₂ o → Becomes S I h₂ S₂ I₂ (standing (atlas_after (room_in S I) l (atlas_in h S I) k) o)
            go (refused n) many u =
                let kept : Unchanged h₁ S₁ I₁ h₂ S₂ I₂ = rw (no_create (get askings l k)) at u in
                rw (kept.header, kept.shelves, kept.items) b
            go (gives g) many c = then_becomes S I b c many
