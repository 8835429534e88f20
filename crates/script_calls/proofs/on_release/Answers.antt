-- `on_release`: the id of the line names an item, or can name none.
use Rattle.numbers.specs.Library.{sym, ◌∙◌, to_z-of_z}
use Rattle.rules.specs.Prelude.{Release}
use Rattle.script_rules.specs.Answers.{change_of}
use Rattle.script_rules.proofs.Told.{as_called, on_id_lem, on_none}
use Rattle.script_calls.proofs.on_release.Goals as goal

pub returns-in-Some : goal.returns-in-Some
unfolding change_of
returns-in-Some c =
    let q = simp (to_z-of_z c.ranges.row, to_z-of_z c.ranges.generation) at c.id_of.ensures in
    as_called _ _ _ _ _ _ _ (on_id_lem Release (sym q ∙ c.in-Some.is)) c.release_id.ensures

pub returns-in-None : goal.returns-in-None
unfolding change_of
returns-in-None c =
    let q = simp (to_z-of_z c.ranges.row, to_z-of_z c.ranges.generation) at c.id_of.ensures in
    as_called _ _ _ _ _ _ _ (on_none Release (sym q ∙ c.in-None.is)) c.outside.ensures
