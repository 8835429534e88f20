-- `tell`: what each arm answers is put, and the list puts its own.
use Rattle.numbers.specs.Library.{arith, ap, w32, SFits, to_z-of_z}
use Rattle.script_rules.specs.Answers.{tell_of}
use Rattle.script_rules.proofs.Told.{said, as_called}
use Rattle.script_tells.proofs.tell.tell.Goals as goal

pub returns-in-Look : goal.returns-in-Look
returns-in-Look c =
    let x : SFits w32 c.in-Look.row = record { sfits = omega arith } in
    let y : SFits w32 c.in-Look.generation = record { sfits = omega arith } in
    said (as_called _ _ _ _ _ _ _ (ap tell_of c.in-Look.is) (simp (to_z-of_z x, to_z-of_z y) at c.on_look.ensures)) c.say.ensures

pub returns-in-Space : goal.returns-in-Space
returns-in-Space c = said (as_called _ _ _ _ _ _ _ (ap tell_of c.in-Space.is) c.on_space.ensures) c.say-in-Space.ensures

pub returns-in-List : goal.returns-in-List
returns-in-List c = rw c.in-List.is c.on_list.ensures
