-- A request that passed checks 4 and 5, over the tables: 6, 7 or the grant at the place that the search holds. Assumes nothing.
use Rattle.std.specs.Prelude.{◌≡◌, Ok, Err}
use Rattle.numbers.specs.Library.{ℕ, List}
use Rattle.numbers.specs.Prelude.{pick}
use Rattle.numbers.specs.declared.request.Asked.{Asked}
use Rattle.numbers.specs.declared.refusal.Refusal.{Refusal}
use Rattle.numbers.specs.declared.refusal.Refusal.TheVariants as refusal
use Rattle.rows.specs.declared.header.Header.{Header}
use Rattle.rows.specs.State.{state}
use Rattle.search.specs.Search.{Held, nothing, good, bad, search}
use Rattle.plan.specs.Plan.{plan_at, has_rows}
use Rattle.plan.specs.declared.Plan.{Plan}
use Rattle.grant.specs.Grant.{grant_at}
use Rattle.search.specs.declared.Place.{Place}
use Rattle.rows.specs.declared.live.Live.{Live}
use Rattle.rules.specs.Prelude.{Unchanged}
use Rattle.promises.specs.declared.answers.Answered.{Answered}

module _ (h : Header) (S I : List ℕ) (asked : Asked) (r : Answered Live) (S' I' : List ℕ) where
  abbrev pub RefusedWith : Refusal → Type 0
  RefusedWith e = (r.answer ≡ Err e) × Unchanged h S I r.header S' I'

  abbrev pub GrantedAs : Plan → Type 0
  GrantedAs p = (r.answer ≡ Ok p.live) × (state r.header S' I' ≡ grant_at (state h S I) p)

  abbrev pub GrantsAs : Plan → Type 0
  GrantsAs p = pick (has_rows h S I p) (GrantedAs p) (RefusedWith refusal.TooFewRows)

  unfoldable pub GrantsThere : Place → Type 0
  GrantsThere p = GrantsAs (plan_at h S I p asked)

  unfoldable pub GrantsHeld : Held → Type 0
  unfolding GrantsThere
  GrantsHeld nothing = RefusedWith refusal.NoPlace
  GrantsHeld (good p depth) = GrantsThere p
  GrantsHeld (bad p) = GrantsThere p

  unfoldable pub GrantsAsked : Type 0
  unfolding GrantsHeld
  GrantsAsked = GrantsHeld (search h S I asked)
