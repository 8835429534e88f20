-- `step`: the line is read, and its command done; each arm hands its own promise on.
use Rattle.std.specs.Prelude.{Some}
use Rattle.numbers.specs.Library.{sym, ap, ◌∙◌}
use Rattle.script_rules.specs.Step.{Doing}
use Rattle.script_rules.proofs.Told.{said, as_read, unreadable}
use Rattle.script.proofs.step.Goals as goal

pub returns-in_default : goal.returns-in_default
returns-in_default c = as_read _ _ _ (sym c.in_default.ensures) (said (unreadable _ _ _) c.say.ensures)

pub returns-in-Tell : goal.returns-in-Tell
unfolding Doing
returns-in-Tell c = as_read _ _ _ (sym c.in-Some.ensures ∙ ap Some c.in-Tell.is) c.tell.ensures

pub returns-in-Change : goal.returns-in-Change
unfolding Doing
returns-in-Change c =
    as_read _ _ _ (sym c.in-Some.ensures ∙ ap Some c.in-Change.is) (said c.change-answered.ensures c.say-in-Change.ensures)
