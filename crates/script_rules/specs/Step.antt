-- One line of the script: it is one step of the rules, and its text is that of the outcome. `h`, `S` and `I` are the header and the two tables
-- before it, `h'`, `S'` and `I'` after it. Assumes nothing.
use Rattle.std.specs.Prelude.{◌≡◌, Option}
use Rattle.numbers.specs.Library.{ℕ, List}
use Rattle.rows.specs.declared.header.Header.{Header}
use Rattle.rules.specs.Prelude.{Outcome, Call, Value, Promise}
use Rattle.lines.specs.declared.command.Command.{Command}
use Rattle.texts.specs.Lines.{PutsLines}
use Rattle.script_rules.specs.Answers.{call_of, outcome_text}
use Rattle.script_rules.specs.declared.Stepped.{Stepped}

-- the text says the outcome
abbrev pub Texts : List ℕ → Outcome Value → Type 0
Texts text o = text ≡ outcome_text o

-- what is right of the header, the tables and the text after a call, and after a command
unfoldable pub Calling : Header → List ℕ → List ℕ → Call → Header → List ℕ → List ℕ → List ℕ → Type 0
Calling h S I call h' S' I' text = Promise call (Texts text) h S I h' S' I'

unfoldable pub Doing : Header → List ℕ → List ℕ → Option Command → Header → List ℕ → List ℕ → List ℕ → Type 0
unfolding Calling call_of
Doing h S I command h' S' I' text = Calling h S I (call_of command) h' S' I' text

-- A text is put, and beside it this header stands.
pub record Said (h : Header) (out : List ℕ) (at : ℕ) (text : List ℕ) (r : Stepped) (out' : List ℕ) : Type 0 where
  pub header : r.header ≡ h
  pub puts : PutsLines out at text out' r.at

-- A step: some text is put into the output, and that text, with the header and tables after it, is right.
pub record Steps (Right : Header → List ℕ → List ℕ → List ℕ → Type 0) (out : List ℕ) (at : ℕ) (r : Stepped) (S' I' out' : List ℕ) : Type 0 where
  pub text : List ℕ
  pub puts : PutsLines out at text out' r.at
  pub right : Right r.header S' I' text
