-- The loop over the requests: what stands after the first k of them. Assumes nothing.
use Rattle.std.specs.Prelude.{◌+◌, ◌≤◌, ◌<◌, ◌≡◌}
use Rattle.numbers.specs.Library.{ℕ, zero, suc, refl, ap, ◌∙◌, List, length, arith, add-one}
use Rattle.rows.specs.Prelude.{rows, get, put, length-put, rows_long}
use Rattle.rows.specs.declared.header.Header.{Header}
use Rattle.rules.specs.Prelude.{Passes, room_in, atlas_in}
use Rattle.batch_rules.specs.Asked.{askings, tolds}
use Rattle.batch_rules.specs.Batch.{atlas_after, told_at, answers_after, ServesOne, ServesFirst}
use Rattle.batch_rules.specs.declared.{values.Asking.Asking, values.Served.Served}
use Rattle.batch_rules.proofs.Turns.{becomes_same, told_is, one_more}

-- the list of answers is as long as it was
pub answers_long : (room : _) (l : List ℕ) (a : _) (out : List ℕ) (k : ℕ) → length (answers_after room l a out k) ≡ length out
unfolding answers_after
answers_long room l a out zero = refl
answers_long room l a out (suc k) = length-put tolds (answers_after room l a out k) k (told_at room l a k) ∙ answers_long room l a out k

-- `h`, `S`, `I` and `out` stood before the first request, the others stand before request k of n
pub record AtRequest (l : List ℕ) (h : Header) (S I out : List ℕ) (n k : ℕ) (h₁ : Header) (S₁ I₁ out₁ : List ℕ) : Type 0 where
  pub upto : k ≤ n
  pub asked : n ≤ rows askings l
  pub room_for : n ≤ rows tolds out
  pub served : ServesFirst h S I l out k h₁ S₁ I₁ out₁

module _ (l : List ℕ) (h : Header) (S I out : List ℕ) (n : ℕ) where
  pub before_first : Passes h S I → n ≤ rows askings l → n ≤ rows tolds out → AtRequest l h S I out n 0 h S I out
  unfolding atlas_after answers_after
  before_first p e f = record { upto = omega arith; asked = e; room_for = f; served = record { becomes = becomes_same h S I p; output = refl } }

  module _ (k : ℕ) {h₁ : Header} {S₁ I₁ out₁ : List ℕ} (turn : AtRequest l h S I out n k h₁ S₁ I₁ out₁) where
    pub has_place : k < n → k < rows tolds out₁
    has_place less =
        let same : rows tolds out₁ ≡ rows tolds out = rows_long tolds out₁ out (ap length turn.served.output ∙ answers_long (room_in S I) l (atlas_in h S I) out k) in
        omega (arith, turn.room_for)

    pub next_request : k < n → (q : Asking) → q ≡ get askings l k → (r : Served) (S₂ I₂ out₂ : List ℕ) → ServesOne h₁ S₁ I₁ q r S₂ I₂ → out₂ ≡ put tolds out₁ k r.told
        → AtRequest l h S I out n (k + 1) r.header S₂ I₂ out₂
    unfolding answers_after
    next_request less q is r S₂ I₂ out₂ one put-so =
        let promise : ServesOne h₁ S₁ I₁ (get askings l k) r S₂ I₂ = rw is at one in
        let told = told_is l h S I k turn.served.becomes r.told r.header S₂ I₂ promise in
        record {
          upto = omega arith;
          asked = turn.asked;
          room_for = turn.room_for;
          served = rw (add-one k) (record {
            becomes = one_more l h S I k turn.served.becomes r.told r.header S₂ I₂ promise;
            output = rw (put-so, turn.served.output, told);
          });
        }
