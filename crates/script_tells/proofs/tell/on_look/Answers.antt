-- `on_look`: the id of the line names an item, or can name none.
use Rattle.numbers.specs.Library.{sym, ◌∙◌, to_z-of_z}
use Rattle.rules.specs.Prelude.{LookUp}
use Rattle.script_rules.specs.Answers.{tell_of}
use Rattle.script_rules.proofs.Told.{as_called, on_id_lem, on_none}
use Rattle.script_tells.proofs.tell.on_look.Goals as goal

pub returns-in-Some : goal.returns-in-Some
unfolding tell_of
returns-in-Some c =
    let q = simp (to_z-of_z c.ranges.row, to_z-of_z c.ranges.generation) at c.id_of.ensures in
    as_called _ _ _ _ _ _ _ (on_id_lem LookUp (sym q ∙ c.in-Some.is)) c.look_id.ensures

pub returns-in-None : goal.returns-in-None
unfolding tell_of
returns-in-None c =
    let q = simp (to_z-of_z c.ranges.row, to_z-of_z c.ranges.generation) at c.id_of.ensures in
    as_called _ _ _ _ _ _ _ (on_none LookUp (sym q ∙ c.in-None.is)) c.outside.ensures
