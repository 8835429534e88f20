-- `release_id`: the public release, and its answer.
use Rattle.rules.specs.Prelude.{Release}
use Rattle.promises.specs.Prelude.{replies, Releases}
use Rattle.script_rules.specs.Answers.{replied}
use Rattle.script_rules.proofs.Told.{told_by_lem, replied_text}
use Rattle.script_calls.proofs.release_id.Goals as goal

pub returns : goal.returns
unfolding Releases
returns c =
    let a = c.args in
    told_by_lem replies replied replied_text (Release a.id.row a.id.generation) _ _ _ _ _ _ _ c.release-released.ensures _ c.of_reply.ensures
