-- `grant_there`: 7, then the grant as it is planned.
use Rattle.numbers.specs.Library.{sym, ◌∙◌, subst}
use Rattle.plan.specs.Plan.{plan_at}
use Rattle.grant.specs.Grant.{PlanThere}
use Rattle.allocate.proofs.Grants.{refused_there, granted_there}
use Rattle.allocate.proofs.grant_there.Goals as goal

pub plan_at-plan-requires : goal.plan_at-plan-requires
unfolding plan_at
plan_at-plan-requires c = (c.requires.shelf, c.requires.item)

pub returns-then-not-has_rows : goal.returns-then-not-has_rows
returns-then-not-has_rows c = refused_there _ _ _ _ _ _ c.plan_at-plan.ensures (sym c.has_rows.ensures ∙ c.if-not-has_rows.true) _ c.refused.ensures

pub write_grant-header-requires : goal.write_grant-header-requires
write_grant-header-requires c = subst (PlanThere _ _) (sym c.plan_at-plan.ensures) c.requires

pub returns : goal.returns
returns c = granted_there _ _ _ _ _ _ c.plan_at-plan.ensures (sym c.has_rows.ensures ∙ c.if-not-has_rows.false) _ _ _ c.write_grant-header.ensures
