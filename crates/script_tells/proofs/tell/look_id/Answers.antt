-- `look_id`: the public look_up, and its answer.
use Rattle.rules.specs.Prelude.{LookUp}
use Rattle.promises.specs.Prelude.{grants, LooksUp}
use Rattle.script_rules.specs.Answers.{granted}
use Rattle.script_rules.proofs.Told.{told_by_lem, granted_text}
use Rattle.script_tells.proofs.tell.look_id.Goals as goal

pub returns : goal.returns
unfolding LooksUp
returns c =
    let a = c.args in
    told_by_lem grants granted granted_text (LookUp a.id.row a.id.generation) _ _ _ _ _ _ _ c.look_up.ensures _ c.of_grant.ensures
