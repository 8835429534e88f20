-- The program is a run of the rules. The header and the tables hold an atlas or none; a command is one step from there, its text is that of the step's
-- outcome, and what it leaves holds the atlas that stands after the step. So the answers of an input's lines, from the all-zero header on, are
-- the answers of the run of their calls. Assumes nothing.
use Rattle.std.specs.Prelude.{◌≡◌, ◌∷◌, ◌++◌}
use Rattle.numbers.specs.Library.{ℕ, refl, ap, ◌∙◌, List, [], map, Option, none, length}
use Rattle.rows.specs.Prelude.{rows_are, items, shelves, zero_header}
use Rattle.rules.specs.Prelude.{Atlas, Room, room_in, Outcome, Call, Value, told_of, step, atlas_after, run}
use Rattle.promises.proofs.Steps.{HoldsAtlas, StepsFrom, one_step}
use Rattle.input.specs.Lines.{lines_of, left}
use Rattle.script_rules.specs.Answers.{call_of, outcome_text}
use Rattle.script_rules.specs.Step.{Texts, Doing}
use Rattle.feed.specs.Answers as answered
use Rattle.feed.specs.Answers.{Asked, State, Answer, Answers}
use Rattle.feed.specs.Feeds.{commands_of, Feeds, feeds_lines, feeds_last}

-- what a state holds, and the room that it has
abbrev pub InState : State → Option Atlas → Type 0
InState s a = HoldsAtlas s.header s.shelves s.items a

abbrev pub room_of : State → Room
room_of s = room_in s.shelves s.items

-- ---- one command

pub answer_step : (c : Asked) (s s' : State) (text : List ℕ) (a : Option Atlas) → InState s a → Answer c s s' text
    → StepsFrom (call_of c) (Texts text) (room_of s) a s'.header s'.shelves s'.items
unfolding Doing
answer_step c s s' text a held answer = one_step (call_of c) (Texts text) s.header s.shelves s.items s'.header s'.shelves s'.items a held answer

-- ---- commands one after another

-- the texts of the answers, one after another
unfoldable pub text_of_all : List (Outcome Value) → List ℕ
text_of_all [] = []
text_of_all (o ∷ rest) = outcome_text o ++ text_of_all rest

-- the atlas that stands after a run
unfoldable pub atlas_after_all : Room → Option Atlas → List Call → Option Atlas
unfolding step atlas_after
atlas_after_all room a [] = a
atlas_after_all room a (call ∷ rest) = atlas_after_all room (atlas_after a call (step room a call)) rest

-- A run of the calls from the atlas `a`, or from none: its text is this one, and the state after it holds the atlas that stands after the run.
pub record Runs (room : Room) (a : Option Atlas) (calls : List Call) (text : List ℕ) (s' : State) : Type 0 where
  pub says : text ≡ text_of_all (run room a calls)
  pub holds : InState s' (atlas_after_all room a calls)
  pub room_kept : room_of s' ≡ room

pub answers_run : (room : Room) (cs : List Asked) {s s' : State} {text : List ℕ} (a : Option Atlas) → room_of s ≡ room → InState s a → Answers cs s s' text
    → Runs room a (map call_of cs) text s'
unfolding text_of_all run atlas_after_all
answers_run room [] a e held answered.none = record { says = refl; holds = held; room_kept = e }
answers_run room (c ∷ cs) {s} {s'} a e held (answered.one {m = m} t {u = u} first rest) =
    let now : StepsFrom (call_of c) (Texts t) room a m.header m.shelves m.items = rw e at (answer_step c s m t a held first) in
    let later : Runs room (atlas_after a (call_of c) (step room a (call_of c))) (map call_of cs) u s' = answers_run room cs _ now.room_kept now.holds rest in
    record {
      says = ap (λ (l : List ℕ). l ++ u) now.says ∙ ap (λ (l : List ℕ). outcome_text (told_of (step room a (call_of c))) ++ l) later.says;
      holds = later.holds;
      room_kept = later.room_kept;
    }

-- ---- a whole input

-- The input is fed to its end: a last line without a newline, if it has a byte, has one fed after it.
pub data Whole (input : List ℕ) (s s' : State) (text : List ℕ) : Type 0 where
  as_it_is : Feeds [] input s s' text [] → Whole input s s' text
  with_newline : (c : ℕ) (cs kept : List ℕ) → left [] input ≡ c ∷ cs → Feeds [] (input ++ (10 ∷ [])) s s' text kept → Whole input s s' text

whole_answers : (input : List ℕ) {s s' : State} {text : List ℕ} → Whole input s s' text → Answers (commands_of (lines_of input)) s s' text
whole_answers input (as_it_is f) = feeds_lines input f
whole_answers input (with_newline c cs kept e f) = feeds_last input c cs e f

pub input_run : (input : List ℕ) (s s' : State) (text : List ℕ) → s.header ≡ zero_header → Whole input s s' text
    → Runs (room_of s) none (map call_of (commands_of (lines_of input))) text s'
unfolding HoldsAtlas
input_run input s s' text e whole = answers_run (room_of s) (commands_of (lines_of input)) none refl e (whole_answers input whole)

-- "512 shelf rows, 2048 item rows"
abbrev pub program_room : Room
program_room = record { shelves = 512; items = 2048 }

program_room_lem : (s : State) → length s.shelves ≡ 4096 → length s.items ≡ 18432 → room_of s ≡ program_room
unfolding room_in shelves items
program_room_lem s e f = rw (rows_are shelves s.shelves, rows_are items s.items, e, f)

-- What the program does, in plain words: it starts with no atlas and room for 512 shelf rows and 2048 item rows, takes each line of its input as a
-- call of the rules, and answers with the texts of what these calls come to, one after another. In the end its header and tables hold the atlas
-- that stands after the last of them.
pub program_run : (input : List ℕ) (s s' : State) (text : List ℕ) → s.header ≡ zero_header → length s.shelves ≡ 4096 → length s.items ≡ 18432
    → Whole input s s' text → Runs program_room none (map call_of (commands_of (lines_of input))) text s'
program_run input s s' text e shelves_long items_long whole = rw (program_room_lem s shelves_long items_long) at (input_run input s s' text e whole)
