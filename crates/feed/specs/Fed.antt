-- What `feed_line` and `feed` promise: a first part of the piece is fed, and the text of its answer is put into the output. Assumes nothing.
use Rattle.std.specs.Prelude.{◌≤◌, ◌<◌}
use Rattle.numbers.specs.Library.{ℕ, List, length, take}
use Rattle.rows.specs.Prelude.{rows, items}
use Rattle.texts.specs.Put.{Puts}
use Rattle.feed.specs.Answers.{State}
use Rattle.feed.specs.Feeds.{Feeds}
use Rattle.feed.specs.declared.Fed.{Fed as Reached}
use Rattle.feed.specs.declared.FedLine.{FedLine}

-- `kept` and `kept'` are kept of the line before and after it; the output is `out` before it, filled up to `at`, and `out'` after it
pub record FeedsLine (kept piece out : List ℕ) (at : ℕ) (s s' : State) (r : FedLine) (kept' out' : List ℕ) : Type 0 where
  pub text : List ℕ
  pub feeds : Feeds kept (take r.taken piece) s s' text kept'
  pub puts : Puts out at text out' r.filled
  -- the text has room where 79,911 bytes are left, if there are no more than 2048 item rows
  pub short : rows items s.items ≤ 2048 → length text ≤ 79911
  pub within : r.taken ≤ length piece
  -- of a piece that has a byte, one is taken at least
  pub some : 0 < length piece → 0 < r.taken

-- the same where `line'` holds the line kept after it
pub record FeedsPart (kept piece out : List ℕ) (at : ℕ) (s s' : State) (r : Reached) (line' out' : List ℕ) : Type 0 where
  pub text : List ℕ
  pub feeds : Feeds kept (take r.taken piece) s s' text (take r.have line')
  pub puts : Puts out at text out' r.filled
  pub short : rows items s.items ≤ 2048 → length text ≤ 79911
  pub room : r.have ≤ 81
  pub within : r.taken ≤ length piece
  pub some : 0 < length piece → 0 < r.taken
