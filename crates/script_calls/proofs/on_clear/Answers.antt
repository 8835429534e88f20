-- `on_clear`: the public clear, and its answer.
use Rattle.rules.specs.Prelude.{Clear}
use Rattle.promises.specs.Prelude.{replies, Clears}
use Rattle.script_rules.specs.Answers.{change_of, replied}
use Rattle.script_rules.proofs.Told.{told_by_lem, replied_text}
use Rattle.script_calls.proofs.on_clear.Goals as goal

pub returns : goal.returns
unfolding change_of Clears
returns c = told_by_lem replies replied replied_text Clear _ _ _ _ _ _ _ c.clear-cleared.ensures _ c.of_reply.ensures
