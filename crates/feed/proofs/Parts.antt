-- What was taken of a piece is fed: it ends no line, or one, which is answered. Assumes nothing.
use Rattle.std.specs.Prelude.{◌≡◌}
use Rattle.numbers.specs.Library.{arith, sym, ap, subst, ◌∙◌, List, ℕ, [], append-nil, length, take, take_all}
use Rattle.lines.specs.Line.{command_of}
use Rattle.input.specs.Lines.{ended}
use Rattle.input.specs.Kept.{ended_short}
use Rattle.input.specs.Takes.{Ends, GoesOn}
use Rattle.feed.specs.Answers.{Asked, State, Answer, Answers, none, one}
use Rattle.feed.specs.Feeds.{commands_of, Feeds, commands_short}

module _ (kept piece line : List ℕ) where
  -- what these bytes ask, by the lines that are kept
  commands_are : (bytes : List ℕ) {ls : List (List ℕ)} → ended_short kept bytes ≡ ls → commands_of (ended kept bytes) ≡ commands_of ls
  unfolding ended_short
  commands_are bytes e = commands_short (ended kept bytes) ∙ ap commands_of e

  pub no_line : (s : State) → GoesOn kept piece line → Feeds kept (take (length piece) piece) s s [] line
  no_line s goes =
      subst (λ (bytes : List ℕ). Feeds kept bytes s s [] line) (sym (take_all (length piece) piece (omega arith)))
      (record { answers = subst (λ (cs : List Asked). Answers cs s s []) (sym (commands_are piece goes.none)) none; formed = sym goes.formed })

  pub one_line : (s s' : State) (text : List ℕ) (n : ℕ) → Ends kept (take n piece) line → {lent now : List ℕ} → lent ≡ line → Answer (command_of lent) s s' text
      → now ≡ [] → Feeds kept (take n piece) s s' text now
  one_line s s' text n ends is lent empty =
      let answered : Answer (command_of line) s s' text = subst (λ (l : List ℕ). Answer (command_of l) s s' text) is lent in
      record {
        answers = subst (λ (cs : List Asked). Answers cs s s' text) (sym (commands_are (take n piece) ends.ends))
            (subst (Answers _ s s') (append-nil text) (one text answered none));
        formed = empty ∙ sym ends.nothing;
      }
