-- `feed`: what is taken ends no line, or one, which is answered as it is kept in the lent bytes.
use Rattle.numbers.specs.Library.{arith, refl}
use Rattle.texts.specs.Put.{put_nothing}
use Rattle.feed.proofs.Longest.{longest}
use Rattle.feed.proofs.Parts.{no_line, one_line}
use Rattle.feed.proofs.feed.Goals as goal

pub returns-in_default : goal.returns-in_default
returns-in_default c =
    record {
      text = _;
      feeds = no_line _ _ _ _ (rw c.in_default.is at c.take_line-kept.ensures.takes);
      puts = put_nothing _ _;
      short = λ few. omega arith;
      room = c.take_line-kept.ensures.room;
      within = omega arith;
      some = λ h. h;
    }

pub returns : goal.returns
returns c =
    let (ends, one, within) = rw c.in-Some.is at c.take_line-kept.ensures.takes in
    let step = c.step-stepped.ensures in
    record {
      text = step.text;
      feeds = one_line _ _ _ _ _ _ _ ends refl step.right refl;
      puts = step.puts.puts;
      short = longest _ _ _ _ _ _ _ step.right step.puts;
      room = omega arith;
      within = within;
      some = λ h. one;
    }
