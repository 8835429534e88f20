-- What the script's commands ask of the rules, and the text of each outcome. Assumes nothing.
use Rattle.std.specs.Prelude.{Option, Some, None, Result, Ok, Err}
use Rattle.numbers.specs.Library.{ℕ, List, []}
use Rattle.numbers.specs.declared.refusal.Refusal.{Refusal}
use Rattle.rows.specs.declared.live.Live.{Live}
use Rattle.rules.specs.Prelude.{Outcome, refused, gives, Call, Value, columns_made, done, items, count, area, space, sides, vacant}
use Rattle.rules.specs.Step as call
use Rattle.rules.specs.Step.{item}
use Rattle.lines.specs.declared.{command.Command.Command, command.Tell.Tell, command.Change.Change}
use Rattle.lines.specs.declared.command.Command.TheVariants as command
use Rattle.lines.specs.declared.command.Tell.TheVariants as tell
use Rattle.lines.specs.declared.command.Change.TheVariants as change
use Rattle.texts.specs.Answer.{refusal_line, text_of}
use Rattle.texts.specs.declared.answer.Answer.{Answer}
use Rattle.texts.specs.declared.answer.Answer.TheVariants as answer
use Rattle.script_rules.specs.Ids.{id_of}
use Rattle.script_rules.specs.Listing.{list_text}
use Rattle.script_rules.specs.declared.ids.Id.{Id}

-- ---- a command as a call of the rules

-- "A row or generation outside 0 to 65535 is 8."
unfoldable pub on_id : (ℕ → ℕ → Call) → Option Id → Call
on_id asked (Some id) = asked id.row id.generation
on_id asked None = call.NoSuchId

-- the script's list goes to the output, which has room for every row of a table
abbrev pub every_row : ℕ
every_row = 65535

unfoldable pub tell_of : Tell → Call
unfolding on_id
tell_of (tell.Look row generation) = on_id call.LookUp (id_of row generation)
tell_of tell.Space = call.Totals
tell_of tell.List = call.ListIn every_row

unfoldable pub change_of : Change → Call
unfolding on_id
change_of (change.Create args) = call.Create args.w args.h args.align_w args.align_h args.vertical args.columns
change_of (change.Ask w h) = call.Allocate w h
change_of (change.Release row generation) = on_id call.Release (id_of row generation)
change_of change.Clear = call.Clear

-- no command is a line that can't be read
unfoldable pub call_of : Option Command → Call
unfolding tell_of change_of
call_of None = call.Unreadable
call_of (Some (command.Tell asked)) = tell_of asked
call_of (Some (command.Change asked)) = change_of asked

-- ---- the text of an outcome: "ok" and what is told, or "no N"

-- what no command of the script asks for has no text
unfoldable pub value_text : Value → List ℕ
value_text (columns_made n) = text_of (answer.Made n)
value_text (item l) = text_of (answer.Item l)
value_text done = text_of answer.Done
value_text (items ls) = list_text ls
value_text (space occupied free) = text_of (answer.Space occupied free)
value_text (count n) = []
value_text (area n) = []
value_text (sides w h) = []
value_text (vacant b) = []

unfoldable pub outcome_text : Outcome Value → List ℕ
unfolding value_text
outcome_text (refused n) = refusal_line n
outcome_text (gives v) = value_text v

-- ---- what the public calls answer, as the script's answers

abbrev pub created : Result ℕ Refusal → Answer
created (Ok columns) = answer.Made columns
created (Err e) = answer.No e

abbrev pub granted : Result Live Refusal → Answer
granted (Ok live) = answer.Item live
granted (Err e) = answer.No e

abbrev pub replied : Result (Unit {0}) Refusal → Answer
replied (Ok t) = answer.Done
replied (Err e) = answer.No e
