-- Pieces of the input are fed to the program one after another: the lines that end in a piece are answered, and of the next line as much is kept
-- as is needed. However the input is cut into pieces, its lines are answered. Assumes nothing.
use Rattle.std.specs.Prelude.{◌≡◌, ◌∷◌, ◌++◌}
use Rattle.numbers.specs.Library.{ℕ, arith, refl, sym, ap, subst, ◌∙◌, List, [], map, append-nil}
use Rattle.std.proofs.lemmas.List.{map-append}
use Rattle.lines.specs.Line.{command_of}
use Rattle.input.specs.Lines.{lines_of, ended, left, last, ended_append, left_append, lines_ended}
use Rattle.input.specs.Kept.{short, ended_short, same_command, ended_kept, left_kept}
use Rattle.feed.specs.Answers.{Asked, State, Answers, none, answers_then}

abbrev pub commands_of : List (List ℕ) → List Asked
commands_of = map command_of

-- `kept` is kept of the line before the piece, and `kept'` after it; the answers' text is `text`
pub record Feeds (kept piece : List ℕ) (s s' : State) (text kept' : List ℕ) : Type 0 where
  pub answers : Answers (commands_of (ended kept piece)) s s' text
  pub formed : kept' ≡ short (left kept piece)

-- ---- laws

-- lines that are kept alike are the same commands
pub commands_short : (ls : List (List ℕ)) → commands_of ls ≡ commands_of (map short ls)
commands_short [] = refl
commands_short (l ∷ ls) = rw (same_command l, ← commands_short ls)

pub commands_kept : (k s : List ℕ) → commands_of (ended (short k) s) ≡ commands_of (ended k s)
unfolding ended_short
commands_kept k s = commands_short (ended (short k) s) ∙ ap commands_of (ended_kept k s) ∙ sym (commands_short (ended k s))

pub feeds_none : (kept : List ℕ) (s : State) → kept ≡ short kept → Feeds kept [] s s [] kept
unfolding ended left
feeds_none kept s e = record { answers = none; formed = e }

pub feeds_then : {k p : List ℕ} {s m s' : State} {t k₁ q u k₂ : List ℕ} → Feeds k p s m t k₁ → Feeds k₁ q m s' u k₂ → Feeds k (p ++ q) s s' (t ++ u) k₂
feeds_then {k} {p} {s} {m} {s'} {t} {k₁} {q} {u} {k₂} a b =
    let same : commands_of (ended k₁ q) ≡ commands_of (ended (left k p) q) =
    ap (λ (l : List ℕ). commands_of (ended l q)) a.formed ∙ commands_kept (left k p) q in
    let all : commands_of (ended k (p ++ q)) ≡ commands_of (ended k p) ++ commands_of (ended k₁ q) =
    ap commands_of (ended_append k p q) ∙ map-append command_of (ended k p) (ended (left k p) q) ∙ ap (λ (cs : List Asked). commands_of (ended k p) ++ cs) (sym same) in
    record {
      answers = subst (λ (cs : List Asked). Answers cs s s' (t ++ u)) (sym all) (answers_then a.answers b.answers);
      formed = b.formed ∙ ap (λ (l : List ℕ). short (left l q)) a.formed ∙ left_kept (left k p) q ∙ ap short (sym (left_append k p q));
    }

-- nothing is kept where nothing was left
none_left : (l : List ℕ) → [] ≡ short l → last l ≡ []
unfolding short
none_left [] e = refl
none_left (c ∷ cs) e = absurd (let z : ◌≡◌ {A = ℕ} 0 1 = cc in omega arith)

-- an input that ends with a newline, or has no byte, is answered when it is fed
pub feeds_lines : (input : List ℕ) {s s' : State} {text : List ℕ} → Feeds [] input s s' text [] → Answers (commands_of (lines_of input)) s s' text
feeds_lines input {s} {s'} {text} f =
    let all : lines_of input ≡ ended [] input =
    lines_ended input ∙ ap (λ (ls : List (List ℕ)). ended [] input ++ ls) (none_left (left [] input) f.formed) ∙ append-nil (ended [] input) in
    subst (λ (ls : List (List ℕ)). Answers (commands_of ls) s s' text) (sym all) f.answers

-- any other is answered when a newline is fed after it
pub feeds_last : (input : List ℕ) {s s' : State} {text kept : List ℕ} (c : ℕ) (cs : List ℕ) → left [] input ≡ c ∷ cs → Feeds [] (input ++ (10 ∷ [])) s s' text kept
    → Answers (commands_of (lines_of input)) s s' text
unfolding ended
feeds_last input {s} {s'} {text} c cs e f =
    let all : lines_of input ≡ ended [] (input ++ (10 ∷ [])) =
    lines_ended input ∙ ap (λ (l : List ℕ). ended [] input ++ last l) e ∙ ap (λ (l : List ℕ). ended [] input ++ (l ∷ [])) (sym e) ∙ sym (ended_append [] input (10 ∷ [])) in
    subst (λ (ls : List (List ℕ)). Answers (commands_of ls) s s' text) (sym all) f.answers
