-- A release as a list of one request: what the loop leaves after it is what the call promises. Assumes nothing.
use Rattle.std.specs.Prelude.{◌≤◌, ◌≡◌, ◌∷◌, Ok}
use Rattle.numbers.specs.Library.{ℕ, refl, true, List, [], length, arith}
use Rattle.rows.specs.Prelude.{rows, get, fit_rows}
use Rattle.rows.specs.Row.{get_in}
use Rattle.rows.specs.declared.header.Header.{Header}
use Rattle.rules.specs.Prelude.{Atlas, room_in, atlas_in, Passes, gives, mapped, Release, release, tells, step_in, Asks}
use Rattle.rules.specs.Step as told
use Rattle.live_rows.specs.Live.{is_live_of}
use Rattle.bridge.proofs.Calls.{release_done}
use Rattle.promises.specs.Prelude.{says, replies, Releases}
use Rattle.promises.proofs.Numbered.{answered, release_numbered}
use Rattle.promises.proofs.Cases.{owed, does}
use Rattle.batch_rules.specs.Asked.{askings, tolds, call_of}
use Rattle.batch_rules.specs.Batch.{atlas_after, ServesFirst}

pub one_asked : (l : List ℕ) → length l ≡ 3 → 1 ≤ rows askings l
unfolding askings
one_asked l e = fit_rows askings l 0 (omega arith) (omega (arith, e))

pub one_told : (out : List ℕ) → length out ≡ 7 → 1 ≤ rows tolds out
unfolding tolds
one_told out e = fit_rows tolds out 0 (omega arith) (omega (arith, e))

module _ (h : Header) (S I : List ℕ) (row generation : ℕ) where
  asking : get askings (2 ∷ row ∷ generation ∷ []) 0 ≡ record { kind = 2; first = row; second = generation }
  unfolding askings
  asking = get_in askings (2 ∷ row ∷ generation ∷ []) 0 (one_asked (2 ∷ row ∷ generation ∷ []) refl)

  -- the atlas after the one request
  after : (a : Atlas) → release (atlas_in h S I) row generation ≡ gives a → atlas_after (room_in S I) (2 ∷ row ∷ generation ∷ []) (atlas_in h S I) 1 ≡ a
  unfolding atlas_after call_of step_in mapped tells
  after a is = rw (asking, is)

  pub releases_one : Passes h S I → is_live_of h I row generation ≡ true → (out : List ℕ) (header : Header) (S' I' out' : List ℕ)
      → ServesFirst h S I (2 ∷ row ∷ generation ∷ []) out 1 header S' I' out' → Releases h S I row generation (record { answer = (Ok tt); header = header }) S' I'
  unfolding Releases Asks step_in mapped tells replies says
  releases_one p e out header S' I' out' served =
      does (Release row generation) _ h S I (owed p) header S' I' refl (λ p.
      let (a, is, becomes) = release_done h S I p row generation e in (
        tells a told.done,
        rw is,
        answered (release_numbered row generation) (Ok tt) refl,
        rw (after a is) at served.becomes,
      ))
