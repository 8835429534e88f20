-- `feed_line`: the bytes that a Line holds are fed as lent ones.
use Rattle.feed.proofs.feed_line.Goals as goal

pub returns : goal.returns
returns c =
    let part = c.feed-fed.ensures in
    record { text = part.text; feeds = part.feeds; puts = part.puts; short = part.short; within = part.within; some = part.some }
