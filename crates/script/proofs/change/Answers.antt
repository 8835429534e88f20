-- `change`: each arm hands its own promise on; a signed number reaches it through its bits.
use Rattle.numbers.specs.Library.{arith, ap, w32, SFits, to_z-of_z}
use Rattle.script_rules.specs.Answers.{change_of}
use Rattle.script_rules.proofs.Told.{as_called}
use Rattle.script.proofs.change.Goals as goal

pub returns-in-Create : goal.returns-in-Create
returns-in-Create c = as_called _ _ _ _ _ _ _ (ap change_of c.in-Create.is) c.on_create.ensures

pub returns-in-Ask : goal.returns-in-Ask
returns-in-Ask c =
    let x : SFits w32 c.in-Ask.w = record { sfits = omega arith } in
    let y : SFits w32 c.in-Ask.height = record { sfits = omega arith } in
    as_called _ _ _ _ _ _ _ (ap change_of c.in-Ask.is) (simp (to_z-of_z x, to_z-of_z y) at c.on_ask.ensures)

pub returns-in-Release : goal.returns-in-Release
returns-in-Release c =
    let x : SFits w32 c.in-Release.row = record { sfits = omega arith } in
    let y : SFits w32 c.in-Release.generation = record { sfits = omega arith } in
    as_called _ _ _ _ _ _ _ (ap change_of c.in-Release.is) (simp (to_z-of_z x, to_z-of_z y) at c.on_release.ensures)

pub returns-in-Clear : goal.returns-in-Clear
returns-in-Clear c = as_called _ _ _ _ _ _ _ (ap change_of c.in-Clear.is) c.on_clear.ensures
