-- `allocate_unaudited`: 4 and 5, then what the atlas gives.
use Rattle.numbers.specs.Library.{sym, ◌∙◌}
use Rattle.numbers.specs.Prelude.{asked}
use Rattle.promises.proofs.Signed.{as_given_2}
use Rattle.allocate.proofs.Grants.{allocates_asked, allocates_refused}
use Rattle.allocate.proofs.allocate_unaudited.Goals as goal

pub grant_asked-requires : goal.grant_asked-requires
grant_asked-requires c = c.requires

pub returns-in-Ok : goal.returns-in-Ok
returns-in-Ok c =
    allocates_asked _ _ _ c.args.w c.args.height c.requires _
    (sym (as_given_2 (asked c.args.h.limits) c.ranges.w c.ranges.height c.check_request-request.ensures) ∙ c.in-Ok.is)
    _ _ _ c.grant_asked.ensures

pub returns-in-Err : goal.returns-in-Err
returns-in-Err c =
    allocates_refused _ _ _ c.args.w c.args.height c.requires _
    (sym (as_given_2 (asked c.args.h.limits) c.ranges.w c.ranges.height c.check_request-request.ensures) ∙ c.in-Err.is)
    _ c.refused.ensures
