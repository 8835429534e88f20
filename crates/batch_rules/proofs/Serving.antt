-- A request is served as its single call: the call's promise with its answer told. Assumes nothing.
use Rattle.std.specs.Prelude.{◌≡◌, ◌≢◌, Result, Ok, Err}
use Rattle.numbers.specs.Library.{ℕ, refl, ap, ◌∙◌, List, pos, eq-eqb, ne_eqb}
use Rattle.numbers.specs.declared.refusal.Refusal.{Refusal}
use Rattle.rows.specs.declared.{header.Header.Header, live.Live.Live}
use Rattle.rules.specs.Prelude.{Allocate, Release, LookUp, passes, Promise, step, step_in, Asks, Leaves, header_kept, is_create, mapped}
use Rattle.promises.specs.Prelude.{says, grants, replies, Allocates, Releases, LooksUp}
use Rattle.promises.specs.declared.answers.Answered.{Answered}
use Rattle.promises.proofs.Cases.{said_so}
use Rattle.batch_rules.specs.Asked.{call_of, number, told_of, grant_as_told, reply_as_told}
use Rattle.batch_rules.specs.Batch.{ServesOne}
use Rattle.batch_rules.specs.declared.{values.Asking.Asking, values.Told.Told, values.Served.Served}

-- what is told of an answer is what is told of the outcome that it says
grant_said : (r : Result Live Refusal) → grant_as_told r ≡ told_of (grants.says r)
unfolding grants says
grant_said (Ok l) = refl
grant_said (Err e) = refl

reply_said : (r : Result (Unit {0}) Refusal) → reply_as_told r ≡ told_of (replies.says r)
unfolding replies says
reply_said (Ok t) = refl
reply_said (Err e) = refl

module _ (h : Header) (S I : List ℕ) (first second : ℕ) (S' I' : List ℕ) where
  pub served_grant : (said : Answered Live) (t : Told) → t ≡ grant_as_told said.answer → Allocates h S I (pos first) (pos second) said S' I'
      → ServesOne h S I (record { kind = 1; first = first; second = second }) (record { told = t; header = said.header }) S' I'
  unfolding Allocates call_of
  served_grant said t is p =
      said_so (Allocate (pos first) (pos second)) h S I said.header S' I' (λ o answers. is ∙ grant_said said.answer ∙ ap told_of answers.says) p

  pub served_release : (said : Answered (Unit {0})) (t : Told) → t ≡ reply_as_told said.answer → Releases h S I first second said S' I'
      → ServesOne h S I (record { kind = 2; first = first; second = second }) (record { told = t; header = said.header }) S' I'
  unfolding Releases call_of
  served_release said t is p = said_so (Release first second) h S I said.header S' I' (λ o answers. is ∙ reply_said said.answer ∙ ap told_of answers.says) p

module _ (h : Header) (S I : List ℕ) (q : Asking) (not-one : q.kind ≢ 1) (not-two : q.kind ≢ 2) where
  pub served_look : q.kind ≡ 3 → (said : Result Live Refusal) (t : Told) → t ≡ grant_as_told said → LooksUp h S I q.first q.second said → ServesOne h S I q (record { told = t; header = h }) S I
  unfolding LooksUp call_of
  served_look three said t is p =
      rw (ne_eqb q.kind 1 not-one, ne_eqb q.kind 2 not-two, eq-eqb q.kind 3 three)
      (said_so (LookUp q.first q.second) h S I h S I (λ o answers. is ∙ grant_said said ∙ ap told_of answers.says) p)

  pub served_none : q.kind ≢ 3 → (t : Told) → t ≡ number 11 → ServesOne h S I q (record { told = t; header = h }) S I
  unfolding Promise Asks call_of step step_in Leaves header_kept is_create mapped
  served_none not_three t is =
      rw (ne_eqb q.kind 1 not-one, ne_eqb q.kind 2 not-two, ne_eqb q.kind 3 not_three)
      (passes tt (record { says = is; leaves = record { header = refl; shelves = refl; items = refl } }))

-- a request of this kind, with the numbers that it has
pub of_kind : (h : Header) (S I : List ℕ) (q : Asking) (r : Served) (S' I' : List ℕ) (kind : ℕ) → q.kind ≡ kind
    → ServesOne h S I (record { kind = kind; first = q.first; second = q.second }) r S' I' → ServesOne h S I q r S' I'
of_kind h S I q r S' I' kind is p = rw (← is) at p
