-- A run of lines: each is answered in the state that the one before it left, and the texts of the answers follow one another. Assumes nothing.
use Rattle.std.specs.Prelude.{◌∷◌, ◌++◌, Option}
use Rattle.numbers.specs.Library.{ℕ, sym, subst, List, [], append_assoc}
use Rattle.rows.specs.declared.header.Header.{Header}
use Rattle.lines.specs.declared.command.Command.{Command}
use Rattle.script_rules.specs.Step.{Doing}

-- what the program holds between two lines: the header and the two tables
pub record State : Type 0 where
  pub header : Header
  pub shelves : List ℕ
  pub items : List ℕ

-- what a line asks: a command, or nothing where it can't be read
abbrev pub Asked : Type 0
Asked = Option Command

-- one line takes a state to another, and this text is its answer
abbrev pub Answer : Asked → State → State → List ℕ → Type 0
Answer c s s' text = Doing s.header s.shelves s.items c s'.header s'.shelves s'.items text

pub data Answers : List Asked → State → State → List ℕ → Type 0 where
  none : {s : State} → Answers [] s s []
  one : {c : Asked} {cs : List Asked} {s m s' : State} (t : List ℕ) {u : List ℕ} → Answer c s m t → Answers cs m s' u → Answers (c ∷ cs) s s' (t ++ u)

-- ---- laws

pub answers_then : {cs ds : List Asked} {s m s' : State} {t u : List ℕ} → Answers cs s m t → Answers ds m s' u → Answers (cs ++ ds) s s' (t ++ u)
answers_then none more = more
answers_then {ds = ds} {s = s} {s' = s'} {u = u} (one {c = c} {cs = cs} t {u = v} a rest) more =
    subst (Answers (c ∷ (cs ++ ds)) s s') (sym (append_assoc t v u)) (one t a (answers_then rest more))
