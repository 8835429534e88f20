-- `on_ask`: the public allocate, and its answer.
use Rattle.numbers.specs.Library.{to_z-of_z}
use Rattle.rules.specs.Prelude.{Allocate}
use Rattle.promises.specs.Prelude.{grants, Allocates}
use Rattle.script_rules.specs.Answers.{change_of, granted}
use Rattle.script_rules.proofs.Told.{told_by_lem, granted_text}
use Rattle.script_calls.proofs.on_ask.Goals as goal

pub returns : goal.returns
unfolding change_of Allocates
returns c =
    told_by_lem grants granted granted_text (Allocate c.args.w c.args.height) _ _ _ _ _ _ _
    (simp (to_z-of_z c.ranges.w, to_z-of_z c.ranges.height) at c.allocate-allocated.ensures) _ c.of_grant.ensures
