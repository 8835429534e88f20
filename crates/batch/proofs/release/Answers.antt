-- `release`: 3, then 8, then the loop over the one request.
use Rattle.numbers.specs.Library.{refl, sym, ◌∙◌, rules}
use Rattle.numbers.specs.Prelude.{allowed}
use Rattle.release.proofs.Cases.{releases_3, releases_none}
use Rattle.batch.proofs.One.{one_asked, one_told, releases_one}
use Rattle.numbers.specs.Library.{ap, not}
use Rattle.batch.proofs.release.Goals as goal

pub returns-then-not-passes : goal.returns-then-not-passes
returns-then-not-passes c = releases_3 _ _ _ _ _ c.passes.ensures (ap not c.if-not-passes.true) _ c.refused.ensures

pub is_live-requires : goal.is_live-requires
is_live-requires c = search (rules, allowed c.passes.ensures (ap not c.if-not-passes.false))

pub returns-then-not-is_live : goal.returns-then-not-is_live
returns-then-not-is_live c = releases_none _ _ _ _ _ (allowed c.passes.ensures (ap not c.if-not-passes.false)) (sym c.is_live.ensures ∙ c.if-not-is_live.true) _ c.refused-then-not-is_live.ensures

pub serve_all-header-requires : goal.serve_all-header-requires
serve_all-header-requires c = (allowed c.passes.ensures (ap not c.if-not-passes.false), one_asked _ refl, one_told _ refl)

pub returns : goal.returns
returns c = releases_one _ _ _ _ _ (allowed c.passes.ensures (ap not c.if-not-passes.false)) (sym c.is_live.ensures ∙ c.if-not-is_live.false) _ _ _ _ _ c.serve_all-header.ensures
